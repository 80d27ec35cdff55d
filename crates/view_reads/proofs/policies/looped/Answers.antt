use Rattle.pixel_formats.specs.declared.abyss.Abyss.TheVariants.{Loop}
use Rattle.plane_rect.specs.Rectangle.{empty}
use Rattle.view_reads.proofs.LoopParts.{loop-enough}
use Rattle.view_reads.proofs.ReadParts.{in-place, unread-loop}
use Rattle.view_reads.proofs.policies.looped.Goals as goal

pub returns-then-is_unread : goal.returns-then-is_unread
returns-then-is_unread c =
    in-place Loop c.args.bounds c.args.rect empty c.in_place.result c.in_place.ensures.part c.in_place.ensures.placed
    (unread-loop c.args.bounds c.args.rect (c.is_unread.ensures.none c.if-is_unread.true))

pub returns : goal.returns
returns c =
    let columns = rw (c.columns_of.ensures.start, c.columns_of.ensures.len, c.columns_of-2.ensures.start, c.columns_of-2.ensures.len) at c.loop_side-columns.ensures in
    let rows = rw (c.rows_of.ensures.start, c.rows_of.ensures.len, c.rows_of-2.ensures.start, c.rows_of-2.ensures.len) at c.loop_side-rows.ensures in
    loop-enough c.args.bounds c.args.rect c.loop_side-columns.result c.loop_side-rows.result columns rows
    (record { part = c.spanning.result; placed = c.spanning-2.result }) c.spanning.ensures c.spanning-2.ensures
