-- What laws of runs speak of.
use Rattle.std.specs.Prelude.{◌≢◌, ℕ, ◌≤◌, List, Some}
use Rattle.std.specs.List.{AllByRecursion}
use Rattle.model_runs.specs.declared.cause.Cause.TheVariants.{Strip}
use Rattle.model_runs.specs.State.{Effect}
use Rattle.model_runs.specs.Words.{Cache, OptionName, Options, Resident, SwapBlocks, Workers, max_value}

-- the line is not refused for a row of tiles that needs more than the cache holds
abbrev pub Fits : Effect → Type 0
Fits effect = effect.refused ≢ Some Strip

-- no line is
abbrev pub AllFit : List Effect → Type 0
AllFit effects = AllByRecursion Fits effects

-- a value that an option may have
abbrev pub IsInRange : OptionName → ℕ → Type 0
IsInRange option value = (1 ≤ value) × (value ≤ max_value option)

-- each option has one
pub record AreInRange (options : Options) : Type 0 where
  pub workers : IsInRange Workers options.workers
  pub resident : IsInRange Resident options.resident
  pub cache : IsInRange Cache options.cache
  pub swap_blocks : IsInRange SwapBlocks options.swap_blocks
