-- What holds of each window of a list, one after the other.
use Rattle.std.proofs.Common.{◌≡◌, ℕ, ◌+◌, ◌<◌, List, Some, get_or, inl, inr, ap, ◌∙◌, subst, arith}
use Rattle.std.specs.Prelude.{slice_get}
use Rattle.std.proofs.lemmas.Bool.{cases_lt}
use Rattle.std.proofs.lemmas.Option.{get_or_from_slice_get}
use Rattle.model_graphs.specs.Windows.{Window}

-- what holds of the windows before one and of that one holds of all up to it
pub up_to-next : (holds : ℕ → Window → Type 0) (windows : List Window) (n : ℕ) (next : Window) → next ≡ get_or windows n next
    → ((i : ℕ) (window : Window) → i < n → slice_get windows i ≡ Some window → holds i window) → holds n next
    → (i : ℕ) (window : Window) → i < n + 1 → slice_get windows i ≡ Some window → holds i window
up_to-next holds windows n next is before here i window below e = elim (cases_lt i n) [
  | inl earlier ↦ before i window earlier e
  | inr late ↦
      let number : n ≡ i = omega (arith, below, late) in
      let same : next ≡ window = is ∙ ap (λ (k : ℕ). get_or windows k next) number ∙ get_or_from_slice_get windows i window next e in
      subst (λ (k : ℕ). holds k window) number (subst (λ (w : Window). holds n w) same here)
]
