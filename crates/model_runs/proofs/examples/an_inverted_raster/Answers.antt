use Rattle.model_runs.proofs.Loading.{inverted}
use Rattle.model_runs.proofs.examples.an_inverted_raster.Goals as goal

pub returns-clause-events : goal.returns-clause-events
returns-clause-events c files has = inverted files has
