-- Images that are held by the raw bytes of tiles: by those of 64 by 64 positions, whatever the box.
use Rattle.std.specs.Prelude.{◌≡◌, ℕ, ◌*◌, ◌<◌, List, [], ◌∷◌, length, replicate, IfSome, Option, unwrap_or}
use Rattle.std.specs.Option.{option_map_or}
use Rattle.plane_rect.specs.Rectangle.{Rectangle, Inside, empty, hull}
use Rattle.plane_rect.specs.Tile.{Tile, tile_at, tile_rectangle, tile_square}
use Rattle.pixel_formats.specs.Format.{channels, pixel_bytes}
use Rattle.pixel_formats.specs.Row.{Pixel}
use Rattle.pixel_formats.specs.declared.format.Format.{Format}
use Rattle.model_images.specs.Image.{Image, image_from_fn}
use Rattle.model_images.specs.FromRaw.{AreBytes, pixels_from_raw}

-- the raw bytes of tiles, where a tile is held
abbrev pub HeldTiles : Type 0
HeldTiles = Tile → Option (List ℕ)

-- the bytes are as many as those of a tile
pub record AreTileBytes (format : Format) (bytes : List ℕ) : Type 0 where
  pub whole : length bytes ≡ 4096 * pixel_bytes format
  pub small : AreBytes bytes

-- the bytes of a tile, which are zeros where it isn't held
abbrev pub tile_or_zeros : Format → HeldTiles → Tile → List ℕ
tile_or_zeros format held tile = unwrap_or (held tile) (replicate (4096 * pixel_bytes format) 0)

-- the pixel of a position that the bytes of its tile encode, and zeros where that tile isn't held
abbrev pub held_pixels : Format → HeldTiles → ℕ → ℕ → Pixel
held_pixels format held u v c =
    option_map_or (λ bytes. pixels_from_raw (tile_square (tile_at u v)) format bytes u v c) (held (tile_at u v)) 0

-- The image over a box that tiles hold.
abbrev pub held_image : Rectangle → Format → HeldTiles → Image
held_image box format held = image_from_fn box format (held_pixels format held)

-- the smallest rectangle that contains these tiles
abbrev pub hull_of_tiles : List Tile → Rectangle
hull_of_tiles [] = empty
hull_of_tiles (tile ∷ tiles) = hull (tile_rectangle tile) (hull_of_tiles tiles)

-- The image of tiles that were put: its box is their hull, in limits or not.
abbrev pub put_image : Format → List Tile → HeldTiles → Image
put_image format tiles held = held_image (hull_of_tiles tiles) format held

-- the bytes of a tile encode zeros outside a box
abbrev pub AreZeroOutside : Rectangle → Format → Tile → List ℕ → Type 0
AreZeroOutside box format tile bytes =
    (u v c : ℕ) → Inside u v (tile_square tile) → ¬ Inside u v box → c < channels format →
    pixels_from_raw (tile_square tile) format bytes u v c ≡ 0

-- each tile that is held is zero outside a box
abbrev pub AreZeroAround : Rectangle → Format → HeldTiles → Type 0
AreZeroAround box format held = (tile : Tile) → IfSome (held tile) (AreZeroOutside box format tile)
