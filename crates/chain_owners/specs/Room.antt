-- The room of a store.
use Rattle.std.specs.Prelude.{ℕ, List}
use Rattle.chain_owners.specs.declared.run.Run.{Run}

-- its free runs, and how many blocks it uses
pub record Room : Type 0 where
  pub free : List Run
  pub used : ℕ
