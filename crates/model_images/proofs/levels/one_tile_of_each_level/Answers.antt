use Rattle.model_images.proofs.AgreeingLevels as laws
use Rattle.model_images.proofs.levels.one_tile_of_each_level.Goals as goal

pub returns-clause-samples : goal.returns-clause-samples
returns-clause-samples c = laws.levels-elsewhere

pub returns-clause-bytes : goal.returns-clause-bytes
returns-clause-bytes c = laws.levels-other_tiles
