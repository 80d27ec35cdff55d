-- Lists without anything in them.
use Rattle.std.proofs.Common.{◌≡◌, ℕ, List, [], ◌∷◌, length, refl, arith}

-- a list of no length
pub none-there : {X : Type 0} (list : List X) (count : ℕ) → count ≡ length list → count ≡ 0 → list ≡ []
none-there [] count is none = refl
none-there (x ∷ list) count is none = absurd (omega (arith, is, none))
