-- Why a call on a chain is refused by its swap.
use Rattle.std.specs.Prelude.{ℕ, ⊤}
use Rattle.chain_owners.specs.Counts.{Rose, Counts, IsFullOver}
use Rattle.chain_owners.specs.declared.swap_refused.SwapRefused.{SwapRefused}
use Rattle.chain_owners.specs.declared.swap_refused.SwapRefused.TheVariants as refusals

-- Why a call that leaves so many names at most is refused: the swap's count of I/O errors rose in it, or
-- that many names can fill the store. It may run out of memory at any time.
abbrev pub HasSwapCause : Counts → Counts → ℕ → SwapRefused → Type 0
HasSwapCause old new names refusals.SwapFault = Rose old.faults new.faults
HasSwapCause old new names (refusals.SwapFull needed longest) = IsFullOver old.used old.capacity names needed longest
HasSwapCause old new names refusals.NoMemory = ⊤
