-- Tables of gray tiles over a chain.
use Rattle.std.specs.Prelude.{◌≡◌, ℕ, ◌++◌, List}
use Rattle.std.specs.Map.{values_of}
use Rattle.plane_rect.specs.Tile.{Tile}
use Rattle.pixel_formats.specs.declared.format.Format.{Format}
use Rattle.pixel_formats.specs.declared.format.Format.TheVariants as formats
use Rattle.chain_owners.specs.Held.{Held}
use Rattle.chain_owners.specs.Owners.{Owns}
use Rattle.level_tables.specs.LevelTiles.{LevelTiles, names}
use Rattle.level_tables.specs.NewTiles.{AreNewTiles}
use Rattle.level_tables.specs.Over.{IsOver}

-- a table of gray tiles
pub record IsGray (tiles : LevelTiles) (held : Held) : Type 0 where
  pub format : tiles.format ≡ formats.Y8
  pub over : IsOver tiles held

-- two tables of gray tiles, each an owner of its names
pub record AreTwo (one other : LevelTiles) (held : Held) : Type 0 where
  pub first : IsGray one held
  pub second : IsGray other held
  pub owned : Owns held (names one ++ names other)

-- a table of gray tiles beside new ones
pub record HasBeside (tiles : LevelTiles) (format : Format) (entries : List (Tile × ℕ)) (held : Held) : Type 0 where
  pub table : IsGray tiles held
  pub gray : format ≡ formats.Y8
  pub made : AreNewTiles format entries held
  pub owned : Owns held (names tiles ++ values_of entries)
