use Rattle.model_images.proofs.HeldTiles as laws
use Rattle.model_images.proofs.tiles.parts_of_held_images.Goals as goal

pub returns : goal.returns
returns c = laws.part-held
