-- Lists of one window.
use Rattle.std.proofs.Common.{◌≡◌, ℕ, zero, suc, List, [], ◌∷◌, length, get_or, Some, refl, sym, arith}
use Rattle.std.specs.Prelude.{slice_get}
use Rattle.model_graphs.specs.Windows.{Window}
use Rattle.op_contracts.specs.Applying.{window_bounds}

pub only-bounds : (windows : List Window) (d : Window) → length windows ≡ 1 → window_bounds windows ≡ (get_or windows 0 d).bounds ∷ []
only-bounds [] d one = absurd (omega (arith, one))
only-bounds (window ∷ []) d one = refl
only-bounds (window ∷ other ∷ windows) d one = absurd (omega (arith, one))

pub only-number : (windows : List Window) (d : Window) (i : ℕ) (window : Window) → length windows ≡ 1 → slice_get windows i ≡ Some window
    → (i ≡ 0) × (window ≡ get_or windows 0 d)
only-number [] d i window one e = absurd (omega (arith, one))
only-number (first ∷ []) d zero window one e = let is : first ≡ window = cc in (refl, sym is)
only-number (first ∷ []) d (suc i) window one e = absurd (cc e)
only-number (first ∷ other ∷ windows) d i window one e = absurd (omega (arith, one))
