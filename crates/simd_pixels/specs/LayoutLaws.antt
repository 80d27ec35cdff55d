-- Alpha among the channels of a pixel.
use Rattle.std.proofs.Common.{◌≡◌, ℕ, suc, ◌+◌, ◌==◌, true, false, ap, arith}
use Rattle.std.proofs.lemmas.Bool.{eqb-true}

-- the last of so many channels and one more
pub last_channel : (n i : ℕ) (pixel : ℕ → ℕ) → (i + 1 == suc n) ≡ true → pixel n ≡ pixel i
last_channel n i pixel alpha = ap pixel (omega (arith, eqb-true (i + 1) (suc n) alpha))

-- where there is none
pub no_channel : (a b : ℕ) → false ≡ true → a ≡ b
no_channel a b never = absurd (cc)
