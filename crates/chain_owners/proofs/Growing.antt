-- Counts after calls that add names.
use Rattle.std.proofs.Common.{ℕ, ◌+◌, ◌≤◌, refl, ◌∙◌, arith}
use Rattle.chain_owners.specs.Counts.{Continues, Counts, Grows}

pub continues-same : (counts : Counts) → Continues counts counts
continues-same counts = record { used = refl; capacity = refl; later = omega arith }

pub continues-both : (first second last : Counts) → Continues first second → Continues second last → Continues first last
continues-both first second last one two = record {
  used = two.used ∙ one.used;
  capacity = two.capacity ∙ one.capacity;
  later = omega (arith, one.later, two.later);
}

pub grows-same : (counts : Counts) → Grows 0 counts counts
grows-same counts = record { continues = continues-same counts; names = omega arith }

pub grows-both : (added more : ℕ) (first second last : Counts) → Grows added first second → Grows more second last → Grows (added + more) first last
grows-both added more first second last one two = record {
  continues = continues-both first second last one.continues two.continues;
  names = omega (arith, one.names, two.names);
}

-- fewer names are at most so many
pub grows-more : (added more : ℕ) (old new : Counts) → added ≤ more → Grows added old new → Grows more old new
grows-more added more old new few grows = record { continues = grows.continues; names = omega (arith, grows.names, few) }
