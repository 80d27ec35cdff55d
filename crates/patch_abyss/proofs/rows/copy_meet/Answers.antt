use Rattle.std.proofs.Common.{◌≡◌, ◌*◌, ap, subst}
use Rattle.plane_rect.specs.Rectangle.{Rectangle}
use Rattle.patch_abyss.specs.Copied.{HasPart}
use Rattle.patch_abyss.proofs.CopiedRows.{part_has_room, HasPart-rows}
use Rattle.patch_abyss.proofs.TilesOfPatches.{some_positions}
use Rattle.patch_abyss.proofs.rows.copy_meet.Goals as goal

pub copy_rows-requires-clause-to : goal.copy_rows-requires-clause-to
copy_rows-requires-clause-to c =
    let some = some_positions c.meet-part.result c.if-is_empty.ensures.value in
    part_has_room c.args.to_rect.now c.meet-part.result c.args.pixel c.meet-part.ensures.in_this some.0 some.1 c.of_part-targets.result c.part.inside.w c.part.inside.h c.args.to.now
    c.of_part-targets.ensures.start c.of_part-targets.ensures.stride (ap (λ (r : Rectangle). r.width) c.part.view_is) (ap (λ (r : Rectangle). r.height) c.part.view_is) c.requires.to

pub copy_rows-requires-clause-from : goal.copy_rows-requires-clause-from
copy_rows-requires-clause-from c =
    let some = some_positions c.meet-part.result c.if-is_empty.ensures.value in
    part_has_room c.args.from_rect.now c.meet-part.result c.args.pixel c.meet-part.ensures.in_other some.0 some.1 c.of_part-sources.result c.part.inside.w c.part.inside.h c.args.from.now
    c.of_part-sources.ensures.start c.of_part-sources.ensures.stride (ap (λ (r : Rectangle). r.width) c.part.view_is) (ap (λ (r : Rectangle). r.height) c.part.view_is) c.requires.from

pub returns-clause-part : goal.returns-clause-part
returns-clause-part c =
    let part = c.meet-part.result in
    let some = some_positions part c.if-is_empty.ensures.value in
    let n = c.args.pixel in
    let t = c.of_part-targets in
    let s = c.of_part-sources in
    let count : c.part.inside.w * n ≡ part.width * n = ap (λ (r : Rectangle). r.width * n) c.part.view_is in
    let high : c.part.inside.h ≡ part.height = ap (λ (r : Rectangle). r.height) c.part.view_is in
    subst (λ (r : Rectangle). HasPart c.args.to_rect.now c.args.from_rect.now r n c.args.from.now c.args.to.now c.copy_rows.new.to) c.meet-part.ensures.value
    (HasPart-rows c.args.to_rect.now c.args.from_rect.now part n (c.part.inside.w * n) t.result s.result c.args.from.now c.args.to.now c.copy_rows.new.to
    c.meet-part.ensures.in_this c.meet-part.ensures.in_other some.0 some.1 t.ensures.start t.ensures.stride s.ensures.start s.ensures.stride count
    (rw high at c.copy_rows.ensures.rows))
