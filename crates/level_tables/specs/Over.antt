-- What a table asks of a chain.
use Rattle.std.specs.Prelude.{◌≡◌, ℕ, ◌*◌, ◌<◌, ◌≤◌, List, Contains, IfSome, IsSome, Option, Some}
use Rattle.std.specs.List.{IsDistinct}
use Rattle.std.specs.Map.{keys_of}
use Rattle.plane_rect.specs.Tile.{IsWhole, Tile}
use Rattle.pixel_formats.specs.Format.{pixel_bytes}
use Rattle.pixel_formats.specs.Limits.{max_level}
use Rattle.pixel_formats.specs.declared.format.Format.{Format}
use Rattle.chain_owners.specs.Held.{Held, bytes_of, length_of}
use Rattle.chain_owners.specs.Owners.{Owns, times}
use Rattle.model_images.specs.Image.{Image}
use Rattle.model_images.specs.Level.{level, tile_at_level}
use Rattle.model_images.specs.Raw.{tile_bytes}
use Rattle.model_images.specs.Tiles.{AreTileBytes}
use Rattle.level_tables.specs.LevelTiles.{LevelTiles, image_of, names, positions, same_level_tile}
use Rattle.level_tables.specs.declared.level_tile.LevelTile.{LevelTile}

-- how many bytes a tile has
abbrev pub tile_length : Format → ℕ
tile_length format = 4096 * pixel_bytes format

-- The name has the bytes of a tile, which are known where the chain exposes its bytes.
pub record IsTileName (format : Format) (held : Held) (name : ℕ) : Type 0 where
  pub length : length_of held name ≡ Some (tile_length format)
  pub bytes : IfSome (bytes_of held name) (AreTileBytes format)
  pub known : IsSome held.content → IsSome (bytes_of held name)

-- A tile of a level is of level 1 to 8, and averaged from some tile that was put.
pub record IsAbove (put : List Tile) (at : LevelTile) : Type 0 where
  pub some_level : 1 ≤ at.level
  pub known_level : at.level ≤ max_level
  pub below : (tile : Tile) × Contains put tile × (tile_at_level tile at.level ≡ at.tile)

-- the bytes, where they are known, are those of a tile of a level of the image
abbrev pub IsTileOfLevel : Option Image → ℕ → Tile → List ℕ → Type 0
IsTileOfLevel image z tile bytes = IfSome image (λ known. bytes ≡ tile_bytes (level known z) tile)

-- Each position that was put is within the plane, and each tile of a level that is held is one of those above them, none
-- twice.
pub record AreLevelTiles (tiles : LevelTiles) : Type 0 where
  pub whole : (tile : Tile) → Contains (positions tiles) tile → IsWhole tile
  pub above : (at : LevelTile) (name : ℕ) → Contains tiles.levels (at, name) → IsAbove (positions tiles) at
  pub once : IsDistinct same_level_tile (keys_of tiles.levels)

-- What a table asks of a chain: it owns the names that it holds, these have the bytes of tiles, and those of levels have
-- the bytes of the image's levels.
pub record IsOver (tiles : LevelTiles) (held : Held) : Type 0 where
  pub owned : Owns held (names tiles)
  pub named : (name : ℕ) → 0 < times (names tiles) name → IsTileName tiles.format held name
  pub shape : AreLevelTiles tiles
  pub averaged : (at : LevelTile) (name : ℕ) → Contains tiles.levels (at, name)
      → IfSome (bytes_of held name) (IsTileOfLevel (image_of tiles held) at.level at.tile)
