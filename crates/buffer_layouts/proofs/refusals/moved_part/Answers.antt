use Rattle.std.proofs.Common.{◌≡◌, false, true, of_z, sym, to_z, w64, ◌∙◌}
use Rattle.std.proofs.lemmas.Int.{to_z-of_z}
use Rattle.plane_rect.specs.Rectangle.{shifted}
use Rattle.buffer_layouts.specs.Views.{seen_shape}
use Rattle.buffer_layouts.proofs.Answering.{copied_by_formats}
use Rattle.buffer_layouts.proofs.refusals.moved_part.Goals as goal

pub returns-then-not-is_same-clause-refused : goal.returns-then-not-is_same-clause-refused
returns-then-not-is_same-clause-refused c =
    let x : to_z w64 (of_z w64 c.args.dx) ≡ c.args.dx = to_z-of_z w64 c.args.dx c.ranges.dx in
    let y : to_z w64 (of_z w64 c.args.dy) ≡ c.args.dy = to_z-of_z w64 c.args.dy c.ranges.dy in
    copied_by_formats (seen_shape c.args.source.now) (seen_shape c.args.target.now) c.args.rect.now c.in-Ok.moved (shifted c.args.dx c.args.dy c.args.rect.now) false
    (sym c.contains.ensures.value ∙ c.if-not-contains.false) (rw (x, y) at (sym c.shift.ensures.value ∙ c.in-Ok.is))
    (sym c.contains-2.ensures.value ∙ c.if-not-contains-2.false) (sym c.is_same.ensures ∙ c.if-not-is_same.true)

pub returns-clause-carried_out : goal.returns-clause-carried_out
returns-clause-carried_out c =
    let x : to_z w64 (of_z w64 c.args.dx) ≡ c.args.dx = to_z-of_z w64 c.args.dx c.ranges.dx in
    let y : to_z w64 (of_z w64 c.args.dy) ≡ c.args.dy = to_z-of_z w64 c.args.dy c.ranges.dy in
    copied_by_formats (seen_shape c.args.source.now) (seen_shape c.args.target.now) c.args.rect.now c.in-Ok.moved (shifted c.args.dx c.args.dy c.args.rect.now) true
    (sym c.contains.ensures.value ∙ c.if-not-contains.false) (rw (x, y) at (sym c.shift.ensures.value ∙ c.in-Ok.is))
    (sym c.contains-2.ensures.value ∙ c.if-not-contains-2.false) (sym c.is_same.ensures ∙ c.if-not-is_same.false)
