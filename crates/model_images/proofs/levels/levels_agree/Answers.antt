use Rattle.model_images.proofs.AgreeingLevels as laws
use Rattle.model_images.proofs.levels.levels_agree.Goals as goal

pub returns : goal.returns
returns c = laws.levels-agree
