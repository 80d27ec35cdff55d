use Rattle.model_images.proofs.LevelLaws as laws
use Rattle.model_images.proofs.levels.halved_samples.Goals as goal

pub returns-clause-mean : goal.returns-clause-mean
returns-clause-mean c = laws.at-halved_image

pub returns-clause-even : goal.returns-clause-even
returns-clause-even c = laws.halved_image-even
