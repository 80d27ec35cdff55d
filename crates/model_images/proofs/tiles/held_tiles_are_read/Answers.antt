use Rattle.model_images.specs.Tiles.{held_pixels}
use Rattle.model_images.proofs.HeldTiles as laws
use Rattle.model_images.proofs.Laws.{IsImage-image_from_fn}
use Rattle.model_images.proofs.tiles.held_tiles_are_read.Goals as goal

pub returns-clause-whole : goal.returns-clause-whole
returns-clause-whole c = λ box format held. IsImage-image_from_fn box format (held_pixels format held)

pub returns-clause-held : goal.returns-clause-held
returns-clause-held c = λ box format held. laws.tile-held format held box

pub returns-clause-either : goal.returns-clause-either
returns-clause-either c = λ box format held. laws.tile-either format held box

pub returns-clause-lacking : goal.returns-clause-lacking
returns-clause-lacking c = λ box format held. laws.tile-lacking format held box
