-- Refusals by a swap, over more names and over more calls.
use Rattle.std.proofs.Common.{ℕ, ◌≤◌, Option, Some, None, arith}
use Rattle.chain_owners.specs.Counts.{Counts, Grows, IsFullOver}
use Rattle.chain_owners.specs.declared.swap_refused.SwapRefused.{SwapRefused}
use Rattle.chain_owners.specs.declared.swap_refused.SwapRefused.TheVariants as refusals
use Rattle.chain_owners.specs.Cause.{HasSwapCause}

full-more : (used : Option ℕ) (capacity names more needed longest : ℕ) → names ≤ more
    → IsFullOver used capacity names needed longest → IsFullOver used capacity more needed longest
full-more None capacity names more needed longest le full = full
full-more (Some used) capacity names more needed longest le full = record {
  short = full.short;
  past = omega (arith, full.past, le);
  room = omega (arith, full.room, le);
}

pub cause-more : (old new : Counts) (names more : ℕ) (refused : SwapRefused) → names ≤ more
    → HasSwapCause old new names refused → HasSwapCause old new more refused
cause-more old new names more refusals.SwapFault le cause = cause
cause-more old new names more (refusals.SwapFull needed longest) le cause = full-more old.used old.capacity names more needed longest le cause
cause-more old new names more refusals.NoMemory le cause = tt

pub cause-before : (first second last : Counts) (added names : ℕ) (refused : SwapRefused) → Grows added first second
    → HasSwapCause second last names refused → HasSwapCause first last names refused
cause-before first second last added names refusals.SwapFault grows cause = omega (arith, grows.continues.later, cause)
cause-before first second last added names (refusals.SwapFull needed longest) grows cause =
    rw (grows.continues.used, grows.continues.capacity) at cause
cause-before first second last added names refusals.NoMemory grows cause = tt

pub cause-after : (first second last : Counts) (added names : ℕ) (refused : SwapRefused)
    → HasSwapCause first second names refused → Grows added second last → HasSwapCause first last names refused
cause-after first second last added names refusals.SwapFault cause grows = omega (arith, grows.continues.later, cause)
cause-after first second last added names (refusals.SwapFull needed longest) cause grows = cause
cause-after first second last added names refusals.NoMemory cause grows = tt
