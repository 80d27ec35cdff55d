use Rattle.model_images.proofs.Laws as laws
use Rattle.model_images.proofs.images.image_is_generated.Goals as goal

pub returns : goal.returns
returns c = laws.image_from_fn-at
