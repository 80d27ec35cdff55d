-- Rows of zeros.
use Rattle.std.proofs.Common.{◌≡◌, ℕ, replicate, get_or, inl, inr, arith}
use Rattle.std.proofs.lemmas.Bool.{cases_lt}
use Rattle.std.proofs.lemmas.List.{get_or_past, get_or-replicate}
use Rattle.std.proofs.lemmas.Simd.{length-replicate}

-- each sample of a row of zeros is 0, and so is what is read past its end
pub get_or-zeros : (n i : ℕ) → ◌≡◌ {A = ℕ} (get_or (replicate n 0) i 0) 0
get_or-zeros n i = elim (cases_lt i n) [ inl lt ↦ get_or-replicate n i 0 0 lt | inr past ↦ get_or_past (replicate n 0) i 0 (omega (arith, length-replicate {A = ℕ} n 0)) ]
