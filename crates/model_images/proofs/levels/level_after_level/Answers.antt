use Rattle.model_images.proofs.LevelLaws as laws
use Rattle.model_images.proofs.levels.level_after_level.Goals as goal

pub returns-clause-first : goal.returns-clause-first
returns-clause-first c = laws.level-zero

pub returns-clause-next : goal.returns-clause-next
returns-clause-next c = laws.level-next
