-- The raw bytes of what windows show, from lines of tiles.
use Rattle.std.specs.Prelude.{◌≡◌, ℕ, ◌+◌, ◌<◌, List, [], Some, length, slice_index_or}
use Rattle.plane_rect.specs.Rectangle.{Rectangle}
use Rattle.plane_rect.specs.Tile.{tile_columns, tile_of}
use Rattle.model_graphs.specs.Windows.{Window, tiles_of}

-- these are the bytes of the tiles of a line that a window has, from the tile of a part's first column up to that of its last
pub record HasTiles (window : Window) (part : Rectangle) (line : ℕ) (tiles : List (List ℕ)) : Type 0 where
  pub count : length tiles ≡ tile_columns part
  pub each : (j : ℕ) → j < length tiles
      → tiles_of window (record { column = tile_of part.first_column + j; row = line }) ≡ Some (slice_index_or tiles j [])
