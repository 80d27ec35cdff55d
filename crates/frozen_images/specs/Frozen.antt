-- Images that are held by tiles in memory.
use Rattle.std.specs.Prelude.{ℕ, ◌*◌, [], IfSome, List, replicate}
use Rattle.std.specs.Map.{lookup}
use Rattle.plane_rect.specs.Rectangle.{Rectangle}
use Rattle.plane_rect.specs.Tile.{Tile, same_tile}
use Rattle.pixel_formats.specs.Format.{pixel_bytes}
use Rattle.pixel_formats.specs.declared.format.Format.{Format}
use Rattle.model_images.specs.Image.{Image}
use Rattle.model_images.specs.Tiles.{AreTileBytes, AreZeroAround, HeldTiles, held_image}

-- a box, a format, and the tiles that are held with their bytes
pub record FrozenTiles : Type 0 where
  pub box : Rectangle
  pub format : Format
  pub tiles : List (Tile × List ℕ)

-- those of no tile
abbrev pub no_tiles : Rectangle → Format → FrozenTiles
no_tiles box format = record { box = box; format = format; tiles = [] }

-- the bytes of a tile, where it is held
abbrev pub bytes_in : FrozenTiles → HeldTiles
bytes_in frozen tile = lookup (same_tile tile) frozen.tiles

-- The image that the tiles are over the box.
abbrev pub frozen_image : FrozenTiles → Image
frozen_image frozen = held_image frozen.box frozen.format (bytes_in frozen)

-- the bytes of a tile of zeros
abbrev pub zero_bytes : Format → List ℕ
zero_bytes format = replicate (4096 * pixel_bytes format) 0

-- Each tile that is held has the bytes of a tile, and is zero outside the box.
pub record AreFrozen (frozen : FrozenTiles) : Type 0 where
  pub bytes : (tile : Tile) → IfSome (bytes_in frozen tile) (AreTileBytes frozen.format)
  pub zero : AreZeroAround frozen.box frozen.format (bytes_in frozen)
