use Rattle.model_images.proofs.PolicyLaws as laws
use Rattle.model_images.proofs.policies.black_outside.Goals as goal

pub returns-clause-color : goal.returns-clause-color
returns-clause-color c = laws.black-color

pub returns-clause-alpha : goal.returns-clause-alpha
returns-clause-alpha c = laws.black-alpha
