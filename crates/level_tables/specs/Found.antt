-- Tiles of levels, and the four tiles below each.
use Rattle.std.specs.Prelude.{◌≡◌, ◌≢◌, ℕ, ◌+◌, ◌-◌, ◌*◌, ◌<◌, ◌≤◌, ◌^◌, Contains, IfErr, IfOk, IfSome, IsSome, is_some, List, length, Option, None, Result, Some, ◌==◌, if◌then◌else◌}
use Rattle.plane_rect.specs.Rectangle.{Rectangle}
use Rattle.std.specs.Map.{lookup}
use Rattle.chain_owners.specs.Held.{Held}
use Rattle.level_tables.specs.LevelTiles.{LevelTiles, bytes_in, image_of, positions, same_level_tile}
use Rattle.plane_rect.specs.Tile.{Tile, same_tile, tile_side, tile_square}
use Rattle.pixel_formats.specs.declared.format.Format.{Format}
use Rattle.model_images.specs.Image.{Image}
use Rattle.model_images.specs.Level.{tile_at_level}
use Rattle.model_images.specs.Paint.{blank, put_raw}
use Rattle.level_tables.specs.Over.{IsTileOfLevel, tile_length}
use Rattle.level_tables.specs.Steps.{HoldsMore, State, names_with_levels}
use Rattle.chain_owners.specs.Cause.{HasSwapCause}
use Rattle.chain_owners.specs.declared.swap_refused.SwapRefused.{SwapRefused}
use Rattle.level_tables.specs.declared.four_tiles.FourTiles.{FourTiles}

-- the bytes are those of a tile of a level, for which some tile that was put is averaged
pub record IsFoundTile (image : Option Image) (put : List Tile) (format : Format) (z : ℕ) (at : Tile) (bytes : List ℕ) : Type 0 where
  pub length : length bytes ≡ tile_length format
  pub exact : IsTileOfLevel image z at bytes
  pub below : (tile : Tile) × Contains put tile × (tile_at_level tile z ≡ at)

-- no tile that was put is averaged for this tile of a level
abbrev pub HasNoneBelow : List Tile → ℕ → Tile → Type 0
HasNoneBelow put z at = (tile : Tile) → Contains put tile → tile_at_level tile z ≢ at

-- A tile of a level, or none where none that was put is averaged for it.
abbrev pub IsFound : Option Image → List Tile → Format → ℕ → Tile → Option (List ℕ) → Type 0
IsFound image put format z at None = HasNoneBelow put z at
IsFound image put format z at (Some bytes) = IsFoundTile image put format z at bytes

-- A tile of a level is found, or the swap refuses one that it is averaged from. Tiles of the levels 1 to z may be held then
-- that weren't.
pub record Finds (z : ℕ) (at : Tile) (result : Result (Option (List ℕ)) SwapRefused) (old new : State) : Type 0 where
  pub found : IfOk result (IsFound (image_of old.tiles old.held) (positions old.tiles) old.tiles.format z at)
  pub more : HoldsMore z old new
  pub cause : (top : ℕ) → z ≤ top → IfErr result (HasSwapCause old.counts new.counts (names_with_levels top old))

-- the name of a tile of a level, where the table holds it
abbrev pub name_in : LevelTiles → ℕ → Tile → Option ℕ
name_in tiles z at =
    if z == 0 then lookup (same_tile at) tiles.put else lookup (same_level_tile (record { level = z; tile = at })) tiles.levels

-- a tile whose name the table holds, or no name
abbrev pub IsHeldTile : LevelTiles → Held → ℕ → Tile → Option (List ℕ) → Type 0
IsHeldTile tiles held z at None = name_in tiles z at ≡ None
IsHeldTile tiles held z at (Some bytes) = IsFoundTile (image_of tiles held) (positions tiles) tiles.format z at bytes

-- The tile that was put at a position, or none where none was: with the bytes of its name, where these are exposed.
pub record IsPutTile (tiles : LevelTiles) (held : Held) (at : Tile) (found : Option (List ℕ)) : Type 0 where
  pub there : is_some found ≡ is_some (lookup (same_tile at) tiles.put)
  pub length : IfSome found (λ bytes. length bytes ≡ tile_length tiles.format)
  pub exact : IsSome held.content → found ≡ bytes_in held tiles.put at

-- the tiles of levels above the first all begin in the half of the plane around the origin
abbrev pub half_origin : ℕ
half_origin = 2 ^ 17

pub record IsInHalf (at : Tile) : Type 0 where
  pub left : half_origin ≤ at.column
  pub right : at.column < 3 * half_origin
  pub top : half_origin ≤ at.row
  pub bottom : at.row < 3 * half_origin

-- one of the four tiles that are averaged for a tile of the next level
abbrev pub tile_below : Tile → ℕ → ℕ → Tile
tile_below at right lower = record { column = 2 * (at.column - half_origin) + right; row = 2 * (at.row - half_origin) + lower }

-- the positions of the four
abbrev pub square_below : Tile → Rectangle
square_below at = record {
  first_column = tile_side * (2 * (at.column - half_origin));
  first_row = tile_side * (2 * (at.row - half_origin));
  width = 2 * tile_side;
  height = 2 * tile_side;
}

-- the four are found
pub record AreFound (image : Option Image) (put : List Tile) (format : Format) (z : ℕ) (at : Tile) (four : FourTiles) : Type 0 where
  pub upper_left : IsFound image put format z (tile_below at 0 0) four.upper_left
  pub upper_right : IsFound image put format z (tile_below at 1 0) four.upper_right
  pub lower_left : IsFound image put format z (tile_below at 0 1) four.lower_left
  pub lower_right : IsFound image put format z (tile_below at 1 1) four.lower_right

-- those that are there have the length of a tile
abbrev pub HasTileLength : Format → Option (List ℕ) → Type 0
HasTileLength format found = IfSome found (λ bytes. length bytes ≡ tile_length format)

pub record HaveTileLength (format : Format) (four : FourTiles) : Type 0 where
  pub upper_left : HasTileLength format four.upper_left
  pub upper_right : HasTileLength format four.upper_right
  pub lower_left : HasTileLength format four.lower_left
  pub lower_right : HasTileLength format four.lower_right

-- an image with a tile in it, if there is one
abbrev pub with_found : Image → Tile → Option (List ℕ) → Image
with_found image at None = image
with_found image at (Some bytes) = put_raw image (tile_square at) bytes

-- the image of the four, zero where one isn't there
abbrev pub image_of_four : Format → Tile → FourTiles → Image
image_of_four format at four =
    with_found
    (with_found
    (with_found
    (with_found (blank (square_below at) format) (tile_below at 0 0) four.upper_left)
    (tile_below at 1 0) four.upper_right)
    (tile_below at 0 1) four.lower_left)
    (tile_below at 1 1) four.lower_right
