-- Reads of a chain, one after another.
use Rattle.std.proofs.Common.{◌≡◌, ℕ, ◌+◌, ◌≤◌, refl, subst, ◌∙◌, arith}
use Rattle.chain_owners.specs.Counts.{Counts, Grows}
use Rattle.chain_owners.proofs.Growing.{grows-both, grows-same}
use Rattle.chain_owners.specs.Cause.{HasSwapCause}
use Rattle.chain_owners.specs.declared.swap_refused.SwapRefused.{SwapRefused}
use Rattle.chain_owners.proofs.Causes.{cause-before, cause-more}
use Rattle.root_tiles.specs.Chains.{ChainState, IsRead}

pub read-none : (state : ChainState) → IsRead state state
read-none state = record { held = refl; counts = grows-same state.counts; loans = refl; valid = λ is. is }

pub read-both : (first second last : ChainState) → IsRead first second → IsRead second last → IsRead first last
read-both first second last a b = record {
  held = b.held ∙ a.held;
  counts = grows-both 0 0 first.counts second.counts last.counts a.counts b.counts;
  loans = b.loans ∙ a.loans;
  valid = λ is. b.valid (a.valid is);
}

-- a refusal after reads is excused as if there had been none
pub refused-later : (first second last : Counts) (refused : SwapRefused) → Grows 0 first second
    → HasSwapCause second last second.names refused → HasSwapCause first last first.names refused
refused-later first second last refused grows cause =
    cause-more first last second.names first.names refused (omega (arith, grows.names))
    (cause-before first second last 0 second.names refused grows cause)

pub grows-read : (added : ℕ) (first second last : Counts) → Grows added first second → Grows 0 second last → Grows added first last
grows-read added first second last a b =
    let none : added + 0 ≡ added = omega arith in
    subst (λ n. Grows n first last) none (grows-both added 0 first second last a b)

-- a refusal after calls that added some names is excused by these and those that may come
pub refused-after : (added most more names : ℕ) (first second last : Counts) (refused : SwapRefused) → added + more ≤ most → names ≤ second.names + more
    → Grows added first second → HasSwapCause second last names refused → HasSwapCause first last (first.names + most) refused
refused-after added most more names first second last refused less few grows cause =
    cause-more first last names (first.names + most) refused (omega (arith, grows.names, less, few))
    (cause-before first second last added names refused grows cause)
