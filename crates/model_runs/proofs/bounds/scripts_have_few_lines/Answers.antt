use Rattle.model_runs.proofs.RunCounts.{script_few}
use Rattle.model_runs.proofs.bounds.scripts_have_few_lines.Goals as goal

pub returns : goal.returns
returns c = script_few
