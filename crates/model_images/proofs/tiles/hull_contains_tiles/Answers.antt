use Rattle.model_images.proofs.PutTiles as laws
use Rattle.model_images.proofs.tiles.hull_contains_tiles.Goals as goal

pub returns-clause-contains : goal.returns-clause-contains
returns-clause-contains c = laws.hull-square

pub returns-clause-smallest : goal.returns-clause-smallest
returns-clause-smallest c = laws.hull-smallest
