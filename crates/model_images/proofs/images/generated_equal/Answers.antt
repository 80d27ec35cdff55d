use Rattle.model_images.proofs.Laws as laws
use Rattle.model_images.proofs.images.generated_equal.Goals as goal

pub returns : goal.returns
returns c = laws.generated_equal
