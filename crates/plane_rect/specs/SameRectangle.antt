-- The laws of the test that two rectangles are one.
use Rattle.std.specs.Cmp.{IsEquivalence}
use Rattle.std.proofs.Common.{◌≡◌, ℕ, true, arith, ap}
use Rattle.std.proofs.lemmas.Bool.Decides.{nat_tests}
use Rattle.plane_rect.specs.Rectangle.{Rectangle, same_rectangle}

pub same_rectangle-true : (a b : Rectangle) → same_rectangle a b ≡ true → a ≡ b
same_rectangle-true a b e =
    let first_column : a.first_column ≡ b.first_column = grind (arith, nat_tests) in
    let first_row : a.first_row ≡ b.first_row = grind (arith, nat_tests) in
    let width : a.width ≡ b.width = grind (arith, nat_tests) in
    let height : a.height ≡ b.height = grind (arith, nat_tests) in
    let of : ℕ → ℕ → ℕ → ℕ → Rectangle = λ l t w h. record { first_column = l; first_row = t; width = w; height = h } in
    let joined : (of : ℕ → ℕ → ℕ → ℕ → Rectangle) → of a.first_column a.first_row a.width a.height ≡ of b.first_column b.first_row b.width b.height = λ of. cc in
    joined of

pub same_rectangle-itself : (a : Rectangle) → same_rectangle a a ≡ true
same_rectangle-itself a = grind (arith, nat_tests)

pub same_rectangle-laws : IsEquivalence same_rectangle
same_rectangle-laws = record {
  refl = same_rectangle-itself;
  symm = λ a b. grind (arith, nat_tests);
  congr = λ a b c e. ap (λ (r : Rectangle). same_rectangle r c) (same_rectangle-true a b e);
}
