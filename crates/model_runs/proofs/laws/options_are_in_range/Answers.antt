use Rattle.model_runs.proofs.OptionRanges.{in_range}
use Rattle.model_runs.proofs.laws.options_are_in_range.Goals as goal

pub returns : goal.returns
returns c = in_range
