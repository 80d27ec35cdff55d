-- What a table of tiles holds, and the image that these tiles are.
use Rattle.std.specs.Prelude.{ℕ, ◌++◌, ◌&&◌, ◌==◌, Bool, List, [], ◌∷◌, Option, if◌then◌else◌}
use Rattle.std.specs.Map.{keys_of, lookup, values_of}
use Rattle.std.specs.Option.{option_and_then, option_map}
use Rattle.plane_rect.specs.Rectangle.{Rectangle}
use Rattle.plane_rect.specs.Tile.{Tile, same_tile}
use Rattle.pixel_formats.specs.declared.format.Format.{Format}
use Rattle.chain_owners.specs.Held.{Held, bytes_of}
use Rattle.model_images.specs.Image.{Image}
use Rattle.model_images.specs.Tiles.{HeldTiles, hull_of_tiles, put_image}
use Rattle.level_tables.specs.declared.level_tile.LevelTile.{LevelTile}

-- A format, the tiles of level 0 that were put with their names, in the order in which they were first put, and the
-- tiles of the levels above that are held, with theirs.
pub record LevelTiles : Type 0 where
  pub format : Format
  pub put : List (Tile × ℕ)
  pub levels : List (LevelTile × ℕ)

-- The same beside how many more positions may be put, and how many more tiles of levels may be held, without memory.
pub record Table : Type 0 where
  pub tiles : LevelTiles
  pub room : ℕ
  pub level_room : ℕ

-- two tiles of levels are one
abbrev pub same_level_tile : LevelTile → LevelTile → Bool
same_level_tile a b = a.level == b.level && same_tile a.tile b.tile

-- the positions of the tiles that were put
abbrev pub positions : LevelTiles → List Tile
positions tiles = keys_of tiles.put

-- the smallest rectangle that contains these
abbrev pub hull_of : LevelTiles → Rectangle
hull_of tiles = hull_of_tiles (positions tiles)

-- the names, each as often as it is held
abbrev pub names : LevelTiles → List ℕ
names tiles = values_of tiles.put ++ values_of tiles.levels

-- the bytes of tiles by their names, where they are exposed
abbrev pub bytes_in : Held → List (Tile × ℕ) → HeldTiles
bytes_in held put tile = option_and_then (bytes_of held) (lookup (same_tile tile) put)

-- The image of the tiles that were put, where the chain exposes its bytes.
abbrev pub image_of : LevelTiles → Held → Option Image
image_of tiles held = option_map (λ _. put_image tiles.format (positions tiles) (bytes_in held tiles.put)) held.content

-- tiles, and others after these were put in their order
abbrev pub tile_with : HeldTiles → Tile → Option (List ℕ) → HeldTiles
tile_with held tile bytes other = if same_tile other tile then bytes else held other

abbrev pub tiles_with : HeldTiles → List (Tile × Option (List ℕ)) → HeldTiles
tiles_with held [] = held
tiles_with held (entry ∷ entries) = tiles_with (tile_with held entry.0 entry.1) entries

-- positions, and these after them where they aren't among them
abbrev pub position_with : List Tile → Tile → List Tile
position_with [] tile = tile ∷ []
position_with (first ∷ tiles) tile = if same_tile tile first then first ∷ tiles else first ∷ position_with tiles tile

abbrev pub positions_with : List Tile → List Tile → List Tile
positions_with tiles [] = tiles
positions_with tiles (tile ∷ more) = positions_with (position_with tiles tile) more

-- The image after these tiles were put in their order.
abbrev pub image_with : LevelTiles → Held → List (Tile × Option (List ℕ)) → Option Image
image_with tiles held entries =
    option_map (λ _. put_image tiles.format (positions_with (positions tiles) (keys_of entries)) (tiles_with (bytes_in held tiles.put) entries)) held.content
