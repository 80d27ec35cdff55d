use Rattle.model_images.proofs.PolicyLaws as laws
use Rattle.model_images.proofs.policies.white_outside.Goals as goal

pub returns : goal.returns
returns c = laws.white-outside
