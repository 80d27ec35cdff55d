use Rattle.model_images.proofs.LevelLaws as laws
use Rattle.model_images.proofs.levels.level_is_an_image.Goals as goal

pub returns-clause-whole : goal.returns-clause-whole
returns-clause-whole c = laws.IsImage-level

pub returns-clause-format : goal.returns-clause-format
returns-clause-format c = laws.level-format
