use Rattle.std.proofs.Common.{[]}
use Rattle.model_runs.proofs.CacheSizes.{effects-equal}
use Rattle.model_runs.specs.State.{first_state}
use Rattle.model_states.specs.Cache.{uncounted}
use Rattle.model_runs.proofs.laws.cache_sizes_change_no_raster.Goals as goal

pub returns : goal.returns
returns c capacity other numbers files lines fit fit_too =
    effects-equal capacity other lines (first_state numbers) (uncounted []) (uncounted []) files fit fit_too
