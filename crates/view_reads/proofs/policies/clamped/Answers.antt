use Rattle.std.proofs.Common.{◌≡◌, ◌-◌}
use Rattle.pixel_formats.specs.declared.abyss.Abyss.TheVariants.{Clamp}
use Rattle.plane_rect.specs.Rectangle.{empty, end_column, end_row, spanning}
use Rattle.view_reads.proofs.ReadParts.{clamp-enough, in-place, side_end, side_start, some-sides, unread-clamp}
use Rattle.view_reads.proofs.policies.clamped.Goals as goal

pub returns-then-is_unread : goal.returns-then-is_unread
returns-then-is_unread c =
    in-place Clamp c.args.bounds c.args.rect empty c.in_place.result c.in_place.ensures.part c.in_place.ensures.placed
    (unread-clamp c.args.bounds c.args.rect (c.is_unread.ensures.none c.if-is_unread.true))

pub returns : goal.returns
returns c =
    let box = c.args.bounds in
    let r = c.args.rect in
    let some = some-sides box (c.is_unread.ensures.some c.if-is_unread.false).1 in
    let is : c.spanning.result ≡ spanning (side_start box.first_column (end_column box) r.first_column) (side_start box.first_row (end_row box) r.first_row)
    (side_end box.first_column (end_column box) (end_column r - 1)) (side_end box.first_row (end_row box) (end_row r - 1)) =
    rw (
      c.nearest.ensures.value,
      c.nearest-2.ensures.value,
      c.nearest-3.ensures.value,
      c.nearest-4.ensures.value,
      c.first_column-first_column.ensures.value,
      c.end_column-end_column.ensures.value,
      c.first_row-first_row.ensures.value,
      c.end_row-end_row.ensures.value,
      c.first_column.ensures.value,
      c.first_row.ensures.value,
      c.end_column.ensures.value,
      c.end_row.ensures.value,
    ) at c.spanning.ensures in
    in-place Clamp box r c.spanning.result c.in_place-2.result c.in_place-2.ensures.part c.in_place-2.ensures.placed
    (clamp-enough box r c.spanning.result some.0 some.1 is)
