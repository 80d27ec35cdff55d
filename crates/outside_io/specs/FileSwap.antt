-- What clauses see of a swap disk in a file.
use Rattle.std.specs.Prelude.{ℕ}

-- how many blocks there are, and how many calls failed
pub record FileSwapState : Type 0 where
  pub block_count : ℕ
  pub faults : ℕ
