use Rattle.std.proofs.Common.{◌≡◌, ℤ, FitsSigned, rules, ◌*ℤ◌, ◌^◌, pos, ap, arith, to_z, of_z, w64, ◌∙◌}
use Rattle.std.proofs.lemmas.Int.{ints, to_z-of_z}
use Rattle.plane_rect.specs.Rectangle.{Rectangle, plane_coordinate}
use Rattle.plane_rect.proofs.Moved.{enlarged-all}
use Rattle.plane_rect.proofs.rect.Rect.enlarged.Goals as goal

pub returns-clause-value : goal.returns-clause-value
returns-clause-value c =
    let r = c.args.self.now in
    let width : c.self.inside.w ≡ r.width = ap (λ (r : Rectangle). r.width) c.self.view_is in
    let height : c.self.inside.h ≡ r.height = ap (λ (r : Rectangle). r.height) c.self.view_is in
    let x : to_z w64 (of_z w64 c.corner-x.result.0) ≡ plane_coordinate r.first_column = omega (arith, ints) in
    let y : to_z w64 (of_z w64 c.corner-x.result.1) ≡ plane_coordinate r.first_row = omega (arith, ints) in
    let w : to_z w64 (of_z w64 c.from-w.result) ≡ pos r.width = omega (arith, ints) in
    let h : to_z w64 (of_z w64 c.from-h.result) ≡ pos r.height = omega (arith, ints) in
    let factor = pos (2 ^ c.args.level) in
    let kept : (z : ℤ) → FitsSigned w64 z → to_z w64 (of_z w64 z) ≡ z = to_z-of_z w64 in
    let a : to_z w64 (of_z w64 c.times.result) ≡ plane_coordinate r.first_column *ℤ factor = kept c.times.result (search rules) ∙ (rw x at c.times.ensures) in
    let b : to_z w64 (of_z w64 c.times-2.result) ≡ plane_coordinate r.first_row *ℤ factor = kept c.times-2.result (search rules) ∙ (rw y at c.times-2.ensures) in
    let d : to_z w64 (of_z w64 c.times-3.result) ≡ pos r.width *ℤ factor = kept c.times-3.result (search rules) ∙ (rw w at c.times-3.ensures) in
    let e : to_z w64 (of_z w64 c.times-4.result) ≡ pos r.height *ℤ factor = kept c.times-4.result (search rules) ∙ (rw h at c.times-4.ensures) in
    rw (a, b, d, e) at c.new.ensures.value

pub returns-clause-positions : goal.returns-clause-positions
returns-clause-positions c = enlarged-all c.args.level c.args.self.now c.requires c.new.result (returns-clause-value c)
