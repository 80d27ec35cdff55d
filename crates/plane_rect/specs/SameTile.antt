-- The laws of the test that two tiles are one.
use Rattle.std.specs.Cmp.{IsEquivalence}
use Rattle.std.proofs.Common.{◌≡◌, ℕ, true, ap, arith}
use Rattle.std.proofs.lemmas.Bool.Decides.{nat_tests}
use Rattle.plane_rect.specs.Tile.{Tile, same_tile}

pub same_tile-true : (a b : Tile) → same_tile a b ≡ true → a ≡ b
same_tile-true a b e =
    let column : a.column ≡ b.column = grind (arith, nat_tests) in
    let row : a.row ≡ b.row = grind (arith, nat_tests) in
    let joined : (of : ℕ → ℕ → Tile) → of a.column a.row ≡ of b.column b.row = λ of. cc in
    joined (λ column row. record { column = column; row = row })

pub same_tile-laws : IsEquivalence same_tile
same_tile-laws = record {
  refl = λ a. grind (arith, nat_tests);
  symm = λ a b. grind (arith, nat_tests);
  congr = λ a b c e. ap (λ (t : Tile). same_tile t c) (same_tile-true a b e);
}
