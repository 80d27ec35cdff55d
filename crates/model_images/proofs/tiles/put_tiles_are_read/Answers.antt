use Rattle.model_images.proofs.PutTiles as laws
use Rattle.model_images.proofs.tiles.put_tiles_are_read.Goals as goal

pub returns : goal.returns
returns c = laws.put-read
