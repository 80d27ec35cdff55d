use Rattle.model_images.proofs.PolicyLaws as laws
use Rattle.model_images.proofs.policies.over_no_position.Goals as goal

pub returns : goal.returns
returns c = laws.abyss_at-empty
