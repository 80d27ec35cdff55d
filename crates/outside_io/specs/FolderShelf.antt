-- What clauses see of a shelf in a folder.
use Rattle.std.specs.Prelude.{ℕ}

-- how many reads and how many writes failed
pub record ShelfFaults : Type 0 where
  pub reads : ℕ
  pub writes : ℕ
