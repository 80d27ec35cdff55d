use Rattle.model_runs.proofs.RunCounts.{render_few}
use Rattle.model_runs.proofs.bounds.renders_need_few_pairs.Goals as goal

pub returns : goal.returns
returns g c = λ meanings scene name level rectangle boxed valid. render_few meanings boxed scene name level rectangle valid
