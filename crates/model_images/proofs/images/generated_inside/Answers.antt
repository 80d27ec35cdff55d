use Rattle.model_images.proofs.Laws as laws
use Rattle.model_images.proofs.images.generated_inside.Goals as goal

pub returns : goal.returns
returns c = laws.at-image_from_fn
