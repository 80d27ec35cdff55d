use Rattle.model_images.proofs.PolicyLaws as laws
use Rattle.model_images.proofs.policies.none_is_the_image.Goals as goal

pub returns : goal.returns
returns c = laws.none-everywhere
