-- The names of several tables of buffers.
use Rattle.std.proofs.Common.{◌≡◌, ℕ, ◌+◌, List, [], ◌∷◌, ◌++◌, ◌∙◌, arith}
use Rattle.chain_owners.specs.Owners.{times}
use Rattle.chain_owners.proofs.Ownership.{respects-beside, respects-both, times-append}
use Rattle.root_tiles.specs.Chains.{ChainState, Leaves}
use Rattle.chain_owners.proofs.Growing.{grows-both}
use Rattle.buffer_view.specs.BufferTables.{BufferTable, buffers_names}
use Rattle.session_states.specs.OverChains.{names_of_all}

pub names-append : (a b : List BufferTable) (q : ℕ) → times (names_of_all (a ++ b)) q ≡ times (names_of_all a) q + times (names_of_all b) q
names-append [] b q = omega arith
names-append (x ∷ a) b q =
    omega (arith, names-append a b q, times-append (buffers_names x) (names_of_all (a ++ b)) q, times-append (buffers_names x) (names_of_all a) q)

-- ---- what calls leave

pub leaves-beside : (added : ℕ) (before after before' after' beside : List ℕ) (s0 s1 : ChainState) → Leaves added before after s0 s1
    → ((q : ℕ) → times before' q ≡ times before q + times beside q)
    → ((q : ℕ) → times after' q ≡ times after q + times beside q)
    → Leaves added before' after' s0 s1
leaves-beside added before after before' after' beside s0 s1 leaves is is' = record {
  others = respects-beside s0.held s1.held before after leaves.others before' after' beside is is';
  counts = leaves.counts;
  loans = leaves.loans;
  valid = leaves.valid;
}

pub leaves-both : (before between after : List ℕ) (s0 s1 s2 : ChainState) → Leaves 0 before between s0 s1 → Leaves 0 between after s1 s2 → Leaves 0 before after s0 s2
leaves-both before between after s0 s1 s2 first second = record {
  others = respects-both s0.held s1.held before between first.others s2.held after second.others;
  counts = grows-both 0 0 s0.counts s1.counts s2.counts first.counts second.counts;
  loans = second.loans ∙ first.loans;
  valid = λ is. second.valid (first.valid is);
}
