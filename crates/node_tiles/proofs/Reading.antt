-- Several reads of tiles are one.
use Rattle.std.proofs.Common.{◌≡◌, ℕ, ◌∙◌, List, [], refl, ap, arith}
use Rattle.chain_owners.specs.Owners.{Respects, times}
use Rattle.chain_owners.proofs.Growing.{grows-both, grows-same}
use Rattle.chain_owners.proofs.Ownership.{respects-beside, respects-both, respects-same}
use Rattle.chain_owners.specs.Cause.{HasSwapCause}
use Rattle.chain_owners.specs.declared.swap_refused.SwapRefused.{SwapRefused}
use Rattle.chain_owners.proofs.Causes.{cause-before, cause-more}
use Rattle.node_tiles.specs.Reads.{Reads, Seen}

pub reads-none : (a : Seen) → Reads a a
reads-none a = record {
  facts = refl;
  images = refl;
  names = refl;
  others = respects-same a.held [];
  owners = refl;
  counts = grows-same a.counts;
  loans = refl;
}

pub reads-both : (a b c : Seen) → Reads a b → Reads b c → Reads a c
reads-both a b c first second = record {
  facts = second.facts ∙ first.facts;
  images = second.images ∙ first.images;
  names = second.names ∙ first.names;
  others = respects-both a.held b.held [] [] first.others c.held [] second.others;
  owners = second.owners ∙ first.owners;
  counts = grows-both 0 0 a.counts b.counts c.counts first.counts second.counts;
  loans = second.loans ∙ first.loans;
}

-- the owners of other names than these are respected
pub reads-beside : (a b : Seen) → Reads a b → (before after : List ℕ) → after ≡ before → Respects a.held b.held before after
reads-beside a b reads before after same =
    respects-beside a.held b.held [] [] reads.others before after before (λ q. omega arith)
    (λ q. let is : times after q ≡ times before q = ap (λ (ns : List ℕ). times ns q) same in omega (arith, is))

pub reads-others : (a b : Seen) → Reads a b → Respects a.held b.held a.names b.names
reads-others a b reads = reads-beside a b reads a.names b.names reads.names

-- a refusal after reads has the cause that it has from their beginning on
pub cause-then : (a b c : Seen) (refused : SwapRefused) → Reads a b → HasSwapCause b.counts c.counts b.counts.names refused
    → HasSwapCause a.counts c.counts a.counts.names refused
cause-then a b c refused reads cause =
    cause-before a.counts b.counts c.counts 0 a.counts.names refused reads.counts
    (cause-more b.counts c.counts b.counts.names a.counts.names refused (omega (arith, reads.counts.names)) cause)
