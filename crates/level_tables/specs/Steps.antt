-- What calls leave of a table and its chain.
use Rattle.std.specs.Prelude.{◌≡◌, ◌≢◌, ℕ, ◌+◌, ◌-◌, ◌<◌, ◌≤◌, [], ◌∷◌, Contains, List, nat_le, if◌then◌else◌}
use Rattle.plane_rect.specs.Tile.{Tile}
use Rattle.chain_owners.specs.Counts.{Continues, Counts, Grows}
use Rattle.chain_owners.specs.Held.{Held, bytes_of}
use Rattle.chain_owners.specs.Owners.{Respects}
use Rattle.model_images.specs.Level.{tile_at_level}
use Rattle.model_images.specs.TileCounts.{level_tiles}
use Rattle.level_tables.specs.LevelTiles.{LevelTiles, bytes_in, hull_of, names, position_with, positions, tile_with}
use Rattle.level_tables.specs.Over.{IsOver}
use Rattle.level_tables.specs.declared.level_tile.LevelTile.{LevelTile}

-- a table, and what its chain holds and counts
pub record State : Type 0 where
  pub tiles : LevelTiles
  pub held : Held
  pub counts : Counts

abbrev pub state : LevelTiles → Held → Counts → State
state tiles held counts = record { tiles = tiles; held = held; counts = counts }

-- The tiles that were put are unchanged, and so are the names of others; the table's condition holds again.
pub record KeepsTiles (old new : State) : Type 0 where
  pub put : new.tiles ≡ record old.tiles { levels = new.tiles.levels }
  pub bytes : (tile : Tile) → bytes_in new.held new.tiles.put tile ≡ bytes_in old.held old.tiles.put tile
  pub others : Respects old.held new.held (names old.tiles) (names new.tiles)
  pub over : IsOver new.tiles new.held
  pub counts : Continues old.counts new.counts

-- A tile of a level isn't held any more.
pub record VoidsOne (at : LevelTile) (old new : State) : Type 0 where
  pub kept : KeepsTiles old new
  pub names : new.counts.names ≤ old.counts.names
  pub fewer : (other : LevelTile) (name : ℕ) → Contains new.tiles.levels (other, name) → Contains old.tiles.levels (other, name)
  pub void : (name : ℕ) → ¬ Contains new.tiles.levels (at, name)

-- Some tiles of levels aren't held any more, among them those of levels 1 to `end` above a tile.
pub record VoidsAbove (tile : Tile) (end : ℕ) (old new : State) : Type 0 where
  pub kept : KeepsTiles old new
  pub names : new.counts.names ≤ old.counts.names
  pub fewer : (at : LevelTile) (name : ℕ) → Contains new.tiles.levels (at, name) → Contains old.tiles.levels (at, name)
  pub void : (at : LevelTile) (name : ℕ) → Contains new.tiles.levels (at, name) → at.level ≤ end → at.tile ≢ tile_at_level tile at.level

-- A name of its own became the table's tile of a position.
pub record Switches (tile : Tile) (name : ℕ) (old new : State) : Type 0 where
  pub format : new.tiles.format ≡ old.tiles.format
  pub positions : positions new.tiles ≡ position_with (positions old.tiles) tile
  pub bytes : (other : Tile) → bytes_in new.held new.tiles.put other ≡ tile_with (bytes_in old.held old.tiles.put) tile (bytes_of old.held name) other
  pub others : Respects old.held new.held (name ∷ names old.tiles) (names new.tiles)
  pub over : IsOver new.tiles new.held
  pub counts : Grows 0 old.counts new.counts

-- how many tiles of the levels up to z are held
abbrev pub level_count : ℕ → List (LevelTile × ℕ) → ℕ
level_count z [] = 0
level_count z (entry ∷ entries) = (if nat_le entry.0.level z then 1 else 0) + level_count z entries

-- How many names a chain has at most after all tiles of the levels 1 to z are held that there can be.
abbrev pub names_with_levels : ℕ → State → ℕ
names_with_levels z now =
    now.counts.names + (level_tiles (hull_of now.tiles) z - level_count z now.tiles.levels)

-- Tiles of the levels 1 to z may be held that weren't.
pub record HoldsMore (z : ℕ) (old new : State) : Type 0 where
  pub kept : KeepsTiles old new
  pub higher : (at : LevelTile) (name : ℕ) → Contains new.tiles.levels (at, name) → z < at.level → Contains old.tiles.levels (at, name)
  pub names : (top : ℕ) → z ≤ top → names_with_levels top new ≤ names_with_levels top old
