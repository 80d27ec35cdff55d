use Rattle.model_images.proofs.HeldTiles as laws
use Rattle.model_images.proofs.tiles.images_are_held.Goals as goal

pub returns : goal.returns
returns c = laws.image-held
