use Rattle.model_images.proofs.ByteLaws as laws
use Rattle.model_images.proofs.raw_bytes.count_of_bytes.Goals as goal

pub returns-clause-rectangle : goal.returns-clause-rectangle
returns-clause-rectangle c = laws.length-raw_with

pub returns-clause-tile : goal.returns-clause-tile
returns-clause-tile c = laws.length-tile_bytes
