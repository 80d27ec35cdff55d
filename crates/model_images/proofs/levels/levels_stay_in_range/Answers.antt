use Rattle.model_images.proofs.LevelLaws as laws
use Rattle.model_images.proofs.levels.levels_stay_in_range.Goals as goal

pub returns : goal.returns
returns c = laws.level-most
