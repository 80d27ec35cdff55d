use Rattle.model_operations.proofs.BoxLaws as laws
use Rattle.model_operations.proofs.laws.inverse_of_image.Goals as goal

pub returns : goal.returns
returns c = laws.inverse
