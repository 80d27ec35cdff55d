use Rattle.std.proofs.Common.{◌≡◌, pos, ap, arith, false, to_z, of_z, w64, sym, ◌∙◌}
use Rattle.std.proofs.lemmas.Int.{ints}
use Rattle.plane_rect.specs.Rectangle.{Rectangle, is_empty, plane_coordinate}
use Rattle.plane_rect.proofs.Moved.{shifted-saturated, shifted-moves, shifted-refuses_place, shifted-refuses_size}
use Rattle.plane_rect.proofs.rect.Rect.shift.Goals as goal

some : (c : goal.After-new) → is_empty c.args.self.now ≡ false
some c = sym c.is_empty.ensures.value ∙ c.if-is_empty.false

pub returns-clause-value : goal.returns-clause-value
returns-clause-value c =
    let r = c.args.self.now in
    let dx : to_z w64 (of_z w64 c.args.dx) ≡ c.args.dx = omega (arith, ints) in
    let dy : to_z w64 (of_z w64 c.args.dy) ≡ c.args.dy = omega (arith, ints) in
    let x : to_z w64 (of_z w64 c.corner-x.result.0) ≡ plane_coordinate r.first_column = omega (arith, ints) in
    let y : to_z w64 (of_z w64 c.corner-x.result.1) ≡ plane_coordinate r.first_row = omega (arith, ints) in
    let a = rw (x, dx) at c.saturating_add.ensures in
    let b = rw (y, dy) at c.saturating_add-2.ensures in
    let to_a : to_z w64 (of_z w64 c.saturating_add.result) ≡ c.saturating_add.result = omega (arith, ints) in
    let to_b : to_z w64 (of_z w64 c.saturating_add-2.result) ≡ c.saturating_add-2.result = omega (arith, ints) in
    let width : c.self.inside.w ≡ r.width = ap (λ (r : Rectangle). r.width) c.self.view_is in
    let height : c.self.inside.h ≡ r.height = ap (λ (r : Rectangle). r.height) c.self.view_is in
    let w : to_z w64 (of_z w64 c.from.result) ≡ pos r.width = omega (arith, ints) in
    let h : to_z w64 (of_z w64 c.from-2.result) ≡ pos r.height = omega (arith, ints) in
    let v = rw (to_a, a, to_b, b, w, h) at c.new.ensures.value in
    v ∙ shifted-saturated c.args.dx c.args.dy r (some c)

pub returns-clause-position : goal.returns-clause-position
returns-clause-position c = shifted-refuses_place c.args.dx c.args.dy c.args.self.now (some c) c.new.result (returns-clause-value c)

pub returns-clause-size : goal.returns-clause-size
returns-clause-size c = shifted-refuses_size c.args.dx c.args.dy c.args.self.now (some c) c.new.result (returns-clause-value c)

pub returns-clause-positions : goal.returns-clause-positions
returns-clause-positions c = shifted-moves c.args.dx c.args.dy c.args.self.now (some c) c.new.result (returns-clause-value c)
