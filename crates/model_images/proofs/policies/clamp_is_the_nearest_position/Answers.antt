use Rattle.model_images.proofs.PolicyLaws as laws
use Rattle.model_images.proofs.policies.clamp_is_the_nearest_position.Goals as goal

pub returns : goal.returns
returns c = laws.clamp-moves
