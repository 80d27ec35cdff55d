-- Images of root buffers that are held by tables of tiles.
use Rattle.std.specs.Prelude.{◌≡◌, ℕ, [], Contains, IfSome, List, None, Option, Some}
use Rattle.std.specs.Option.{option_map}
use Rattle.chain_owners.specs.Held.{Held}
use Rattle.level_tables.specs.LevelTiles.{LevelTiles, bytes_in, names, positions}
use Rattle.level_tables.specs.Over.{IsOver}
use Rattle.model_graphs.specs.Shapes.{Shape}
use Rattle.model_images.specs.Image.{Image}
use Rattle.model_images.specs.Paint.{cut, put_raw}
use Rattle.model_images.specs.Tiles.{AreZeroAround, held_image}
use Rattle.pixel_formats.specs.declared.format.Format.{Format}
use Rattle.plane_rect.specs.Rectangle.{InLimits, IsRectangle, Rectangle}
use Rattle.plane_rect.specs.Tile.{Meets, Tile, tile_square}

-- a box, and the tiles that are held
pub record RootTiles : Type 0 where
  pub box : Rectangle
  pub tiles : LevelTiles

-- the root of no tile
abbrev pub empty_root : Rectangle → Format → RootTiles
empty_root box format = record { box = box; tiles = record { format = format; put = []; levels = [] } }

-- its box and its format
abbrev pub root_shape : RootTiles → Shape
root_shape root = record { box = root.box; format = root.tiles.format }

-- The image that the tiles are over the box, where the chain exposes its bytes.
abbrev pub root_image : RootTiles → Held → Option Image
root_image root held =
    option_map (λ _. held_image root.box root.tiles.format (bytes_in held root.tiles.put)) held.content

-- the names, each as often as it is held
abbrev pub root_names : RootTiles → List ℕ
root_names root = names root.tiles

-- What a root asks of a chain: what its table asks, and that each tile that was put has a position of the box, and is
-- zero outside it.
pub record IsRootOver (root : RootTiles) (held : Held) : Type 0 where
  pub table : IsOver root.tiles held
  pub rectangle : IsRectangle root.box
  pub limits : InLimits root.box
  pub meeting : (tile : Tile) → Contains (positions root.tiles) tile → Meets tile root.box
  pub zero : AreZeroAround root.box root.tiles.format (bytes_in held root.tiles.put)

-- an image has this box and this format
pub record HasShape (shape : Shape) (image : Image) : Type 0 where
  pub box : image.box ≡ shape.box
  pub format : image.format ≡ shape.format

-- the shape of a part
abbrev pub part_shape : RootTiles → Rectangle → Shape
part_shape root part = record { box = part; format = root.tiles.format }

-- an image is a part of another, where that is known
abbrev pub IsPartOf : Option Image → Rectangle → Image → Type 0
IsPartOf image part patch = IfSome image (λ known. patch ≡ cut known part)

-- an image with the pixels of a tile in it, if there is one
abbrev pub with_tile : Image → Tile → Option (List ℕ) → Image
with_tile image at None = image
with_tile image at (Some bytes) = put_raw image (tile_square at) bytes
