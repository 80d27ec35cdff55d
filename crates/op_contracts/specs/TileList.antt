-- Lists of tiles with their bytes.
use Rattle.std.specs.Prelude.{◌≡◌, ℕ, List, length, map}
use Rattle.plane_rect.specs.Tile.{Tile}

-- the tiles of a list, without their bytes
abbrev pub tiles_in : List (Tile × List ℕ) → List Tile
tiles_in entries = map (λ (entry : Tile × List ℕ). entry.0) entries

-- a tile has so many bytes
abbrev pub HasLength : ℕ → Tile × List ℕ → Type 0
HasLength len entry = length entry.1 ≡ len
