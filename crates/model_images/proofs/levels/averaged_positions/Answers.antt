use Rattle.model_images.proofs.AgreeingLevels as laws
use Rattle.model_images.proofs.levels.averaged_positions.Goals as goal

pub returns-clause-next : goal.returns-clause-next
returns-clause-next c = laws.Inside-below

pub returns-clause-tiles : goal.returns-clause-tiles
returns-clause-tiles c = laws.Inside-source_of_tile
