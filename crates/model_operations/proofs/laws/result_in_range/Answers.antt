use Rattle.model_operations.proofs.RangeLaws as laws
use Rattle.model_operations.proofs.laws.result_in_range.Goals as goal

pub returns : goal.returns
returns c = laws.result-range
