use Rattle.model_images.proofs.AgreeingLevels as laws
use Rattle.model_images.proofs.levels.levels_are_local.Goals as goal

pub returns-clause-samples : goal.returns-clause-samples
returns-clause-samples c = laws.levels-local

pub returns-clause-bytes : goal.returns-clause-bytes
returns-clause-bytes c = laws.levels-local-bytes

pub returns-clause-zeros : goal.returns-clause-zeros
returns-clause-zeros c = laws.level-zeros

pub returns-clause-parts : goal.returns-clause-parts
returns-clause-parts c = laws.level-part
