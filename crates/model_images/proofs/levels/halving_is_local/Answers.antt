use Rattle.model_images.proofs.LevelLaws as laws
use Rattle.model_images.proofs.levels.halving_is_local.Goals as goal

pub returns : goal.returns
returns c = laws.halved_images-agree
