-- Images of buffers that are held by tiles in memory.
use Rattle.std.specs.Prelude.{◌≡◌, ℕ, List, Option, IfSome}
use Rattle.frozen_images.specs.Frozen.{FrozenTiles, frozen_image}
use Rattle.indexmap.specs.IndexMap.{insert_entry}
use Rattle.model_buffers.specs.Table.{Table, image_of}
use Rattle.model_graphs.specs.Shapes.{Shape}
use Rattle.model_images.specs.Image.{Image}
use Rattle.plane_rect.specs.Tile.{Tile, same_tile}

-- the tiles are held over this box in this format
pub record IsFrozenOver (shape : Shape) (frozen : FrozenTiles) : Type 0 where
  pub box : frozen.box ≡ shape.box
  pub format : frozen.format ≡ shape.format

-- the tiles hold an image, where it is known
abbrev pub IsFrozenImage : Option Image → FrozenTiles → Type 0
IsFrozenImage image frozen = IfSome image (λ known. frozen_image frozen ≡ known)

-- the tiles hold the image of a buffer, where the table is known
abbrev pub IsFrozenBuffer : Option Table → List ℕ → FrozenTiles → Type 0
IsFrozenBuffer table name frozen = IfSome table (λ known. frozen_image frozen ≡ image_of known name)

-- the tiles, with these bytes at a position
abbrev pub with_held : FrozenTiles → Tile → List ℕ → FrozenTiles
with_held frozen at bytes = record frozen { tiles = insert_entry same_tile frozen.tiles at bytes }
