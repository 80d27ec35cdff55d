use Rattle.model_images.proofs.HeldTiles as laws
use Rattle.model_images.proofs.tiles.one_tile_changes.Goals as goal

pub returns-clause-one : goal.returns-clause-one
returns-clause-one c = laws.one_tile-changes

pub returns-clause-none : goal.returns-clause-none
returns-clause-none c = λ a b format held. laws.boxes-agree format held a b
