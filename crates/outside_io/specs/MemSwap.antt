-- What clauses see of a swap disk in memory.
use Rattle.outside_io.specs.Calls.{Calls}
use Rattle.outside_io.specs.Swap.{Blocks}

-- the blocks, and the reads and writes that were asked for
pub record SwapState : Type 0 where
  pub blocks : Blocks
  pub reads : Calls
  pub writes : Calls
