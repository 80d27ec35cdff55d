use Rattle.model_images.proofs.AgreeingLevels as laws
use Rattle.model_images.proofs.levels.halved_everywhere.Goals as goal

pub returns-clause-mean : goal.returns-clause-mean
returns-clause-mean c = laws.halved-mean

pub returns-clause-nothing : goal.returns-clause-nothing
returns-clause-nothing c = laws.halved-before
