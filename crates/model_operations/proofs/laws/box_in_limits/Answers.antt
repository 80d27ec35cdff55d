use Rattle.model_operations.proofs.BoxLaws as laws
use Rattle.model_operations.proofs.laws.box_in_limits.Goals as goal

pub returns : goal.returns
returns c = laws.box-limits
