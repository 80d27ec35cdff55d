use Rattle.model_images.proofs.LevelLaws as laws
use Rattle.model_images.proofs.levels.halving_covers.Goals as goal

pub returns-clause-positions : goal.returns-clause-positions
returns-clause-positions c = laws.halved_image-positions

pub returns-clause-four : goal.returns-clause-four
returns-clause-four c = laws.one_of_four
