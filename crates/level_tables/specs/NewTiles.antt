-- Tiles that were made beside a table, under names of their own.
use Rattle.std.specs.Prelude.{◌≡◌, ℕ, ◌<◌, ◌++◌, List, [], ◌∷◌, Contains, None, Option}
use Rattle.std.specs.Map.{keys_of, values_of}
use Rattle.plane_rect.specs.Tile.{IsWhole, Tile}
use Rattle.pixel_formats.specs.declared.format.Format.{Format}
use Rattle.chain_owners.specs.Held.{Held, bytes_of, length_of, owners_of, with_name}
use Rattle.chain_owners.specs.Owners.{Owns, times}
use Rattle.level_tables.specs.Over.{IsTileName}

-- The format of the tiles, their positions with their names in the order in which they were added, and how many more can
-- be added without memory for the list.
pub record MadeTiles : Type 0 where
  pub format : Format
  pub entries : List (Tile × ℕ)
  pub room : ℕ

-- the positions with the bytes of the names, where the chain exposes them
abbrev pub tiles_in : Held → List (Tile × ℕ) → List (Tile × Option (List ℕ))
tiles_in held [] = []
tiles_in held (entry ∷ entries) = (entry.0, bytes_of held entry.1) ∷ tiles_in held entries

-- What such tiles ask of a chain: that it has their names, of which they are owners, with the bytes of tiles, and positions
-- within the plane.
pub record AreNewTiles (format : Format) (entries : List (Tile × ℕ)) (held : Held) : Type 0 where
  pub owned : Owns held (values_of entries)
  pub named : (name : ℕ) → 0 < times (values_of entries) name → IsTileName format held name
  pub whole : (tile : Tile) → Contains (keys_of entries) tile → IsWhole tile

-- A tile was added at the end, by a name that wasn't there.
pub record Adds (at : Tile) (bytes : List ℕ) (old new : List (Tile × ℕ)) (held held' : Held) : Type 0 where
  pub name : ℕ
  pub absent : length_of held name ≡ None
  pub unowned : owners_of held name ≡ 0
  pub entries : new ≡ old ++ (at, name) ∷ []
  pub named : held' ≡ with_name held name bytes
