use Rattle.model_images.proofs.LackingTiles as laws
use Rattle.model_images.proofs.tiles.levels_of_lacking_tiles.Goals as goal

pub returns : goal.returns
returns c = laws.level-lacking
