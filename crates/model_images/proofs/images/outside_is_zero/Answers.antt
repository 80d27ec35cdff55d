use Rattle.model_images.proofs.Laws as laws
use Rattle.model_images.proofs.images.outside_is_zero.Goals as goal

pub returns : goal.returns
returns c = laws.at_outside
