use Rattle.std.proofs.Common.{◌≤◌, ℕ, Option, Some, None, arith}
use Rattle.chain_owners.specs.Counts.{IsFullOver}
use Rattle.chain_owners.proofs.counts_laws.more_names_fill.Goals as goal

fills : (used : Option ℕ) (capacity names more needed longest : ℕ) → names ≤ more
    → IsFullOver used capacity names needed longest → IsFullOver used capacity more needed longest
fills None capacity names more needed longest le full = full
fills (Some used) capacity names more needed longest le full = record {
  short = full.short;
  past = omega (arith, full.past, le);
  room = omega (arith, full.room, le);
}

pub returns : goal.returns
returns c = fills
