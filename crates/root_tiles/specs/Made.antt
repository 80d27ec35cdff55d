-- Tiles that are made beside a root, before they become its own.
use Rattle.std.specs.Prelude.{◌≡◌, ℕ, ◌++◌, ◌⊎◌, Contains, IsSome, IsSomeAnd, List, Option}
use Rattle.std.specs.Map.{keys_of, values_of}
use Rattle.chain_owners.specs.Counts.{Grows}
use Rattle.chain_owners.specs.Owners.{Owns, Respects}
use Rattle.level_tables.specs.LevelTiles.{bytes_in}
use Rattle.level_tables.specs.NewTiles.{AreNewTiles, tiles_in}
use Rattle.model_images.specs.Tiles.{HeldTiles}
use Rattle.pixel_formats.specs.Row.{Pixel}
use Rattle.pixel_formats.specs.declared.format.Format.{Format}
use Rattle.plane_rect.specs.Rectangle.{Rectangle}
use Rattle.plane_rect.specs.Tile.{Meets, Tile}
use Rattle.root_tiles.specs.Chains.{ChainState}
use Rattle.root_tiles.specs.Paints.{IsPainted}
use Rattle.root_tiles.specs.Roots.{IsRootOver, RootTiles, root_names}

-- each of the tiles is painted with f's samples over a rectangle
abbrev pub ArePainted : Format → HeldTiles → Rectangle → (ℕ → ℕ → Pixel) → List (Tile × Option (List ℕ)) → Type 0
ArePainted format held r f entries =
    (tile : Tile) (bytes : Option (List ℕ)) → Contains entries (tile, bytes) → IsSomeAnd bytes (IsPainted format held r f tile)

-- Painted tiles that meet a rectangle were made beside a root, of which nothing changed, and there are at most so many more
-- names.
pub record Makes (root : RootTiles) (r : Rectangle) (f : ℕ → ℕ → Pixel) (added : ℕ) (old new : ChainState) (entries : List (Tile × ℕ)) : Type 0 where
  pub made : AreNewTiles root.tiles.format entries new.held
  pub owned : Owns new.held (root_names root ++ values_of entries)
  pub others : Respects old.held new.held (root_names root) (root_names root ++ values_of entries)
  pub over : IsRootOver root new.held
  pub bytes : (tile : Tile) → bytes_in new.held root.tiles.put tile ≡ bytes_in old.held root.tiles.put tile
  pub painted : IsSome old.held.content →
      ArePainted root.tiles.format (bytes_in old.held root.tiles.put) r f (tiles_in new.held entries)
  pub meeting : (tile : Tile) → Contains (keys_of entries) tile → Meets tile r
  pub grows : Grows added old.counts new.counts
  pub loans : new.loans ≡ old.loans
  pub valid : old.valid → new.valid

-- each tile that meets a rectangle is among them
abbrev pub HasAll : Rectangle → List (Tile × ℕ) → Type 0
HasAll r entries = (tile : Tile) → Meets tile r → Contains (keys_of entries) tile

-- an entry was there before, or is a tile that meets a part, painted with f's samples over a rectangle
abbrev pub IsPaintedOrThere : Format → HeldTiles → Rectangle → Rectangle → (ℕ → ℕ → Pixel) → List (Tile × Option (List ℕ)) → Tile → Option (List ℕ) → Type 0
IsPaintedOrThere format held part r f before tile bytes =
    Contains before (tile, bytes) ⊎ (Meets tile part × IsSomeAnd bytes (IsPainted format held r f tile))

-- Painted tiles that meet a part of a rectangle were made after others, beside a root. Nothing changed of these and of the
-- root, and there are at most so many more names.
pub record MakesMore (root : RootTiles) (part r : Rectangle) (f : ℕ → ℕ → Pixel) (added : ℕ) (old new : ChainState) (before after : List (Tile × ℕ)) : Type 0 where
  pub made : AreNewTiles root.tiles.format after new.held
  pub owned : Owns new.held (root_names root ++ values_of after)
  pub others : Respects old.held new.held (root_names root ++ values_of before) (root_names root ++ values_of after)
  pub over : IsRootOver root new.held
  pub bytes : (tile : Tile) → bytes_in new.held root.tiles.put tile ≡ bytes_in old.held root.tiles.put tile
  pub painted : IsSome old.held.content → (tile : Tile) (bytes : Option (List ℕ)) → Contains (tiles_in new.held after) (tile, bytes)
      → IsPaintedOrThere root.tiles.format (bytes_in old.held root.tiles.put) part r f (tiles_in old.held before) tile bytes
  pub meeting : (tile : Tile) → Contains (keys_of after) tile → Contains (keys_of before) tile ⊎ Meets tile part
  pub kept : (tile : Tile) → Contains (keys_of before) tile → Contains (keys_of after) tile
  pub grows : Grows added old.counts new.counts
  pub loans : new.loans ≡ old.loans
  pub valid : old.valid → new.valid
