use Rattle.std.proofs.Common.{◌≡◌, ◌+◌, ◌≤◌, max, ap, ◌∙◌, arith}
use Rattle.plane_rect.specs.Rectangle.{Rectangle}
use Rattle.patch_abyss.proofs.ReadRows.{repetition-looped}
use Rattle.patch_abyss.proofs.outside.wrapped_rows.Goals as goal

pub returns : goal.returns
returns c =
    let box = c.args.bounds.now in
    let rect = c.args.rect.now in
    let row = c.args.row in
    let period = c.max-period.result in
    let is : period ≡ max box.height 1 = c.max-period.ensures ∙ ap (λ (r : Rectangle). max r.height 1) c.bounds.view_is in
    let above : rect.first_row + period ≤ row = omega (arith, c.if-row-first_row.false, c.first_row.ensures.value, c.requires) in
    record {
      some = omega (arith, is);
      above = above;
      further = omega (arith, c.requires, c.end_row.ensures.value);
      within = omega (arith, c.end_row.ensures.value);
      same = λ i below. repetition-looped box row i period is (omega (arith, above));
    }
