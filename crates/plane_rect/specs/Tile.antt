-- Tiles of positions, in natural numbers: a tile's column and row count from the plane's upper left corner, 64 positions a
-- tile. So the column of a tx is tx + 2^18.
use Rattle.std.specs.Prelude.{◌≡◌, ℕ, zero, suc, ◌+◌, ◌-◌, ◌*◌, ◌/◌, ◌^◌, ◌<◌, ◌≤◌, ◌⊎◌, ◌&&◌, ◌==◌, Bool, nat_lt, if◌then◌else◌, ℤ, pos, negsuc, ◌-ℤ◌, ◌≤ℤ◌, List, [], ◌∷◌, ◌++◌, map}
use Rattle.std.specs.Int.{div_ceil}
use Rattle.std.specs.List.{range_with_len}
use Rattle.std.specs.Ordering.{nat_cmp, on, then_cmp}
use Rattle.std.specs.declared.cmp.Ordering.{Ordering}
use Rattle.plane_rect.specs.Rectangle.{Rectangle, Inside, plane_side, meet, end_column, end_row, has_positions}

-- how many columns, and how many rows, a tile has
abbrev pub tile_side : ℕ
tile_side = 64

-- the column and the row of the tile that begins at the origin
abbrev pub tile_origin : ℕ
tile_origin = 2 ^ 18

-- the largest column and row of a tile, where it begins after the plane
abbrev pub last_tile : ℕ
last_tile = 2 ^ 19

-- A tile, by its column and row.
pub record Tile : Type 0 where
  pub column : ℕ
  pub row : ℕ

-- the tile begins no later than just after the plane
pub record IsTile (t : Tile) : Type 0 where
  pub in_columns : t.column ≤ last_tile
  pub in_rows : t.row ≤ last_tile

-- the column of a tx, or the row of a ty, that is not below -2^18
abbrev pub tile_index : ℤ → ℕ
tile_index (pos n) = n + tile_origin
tile_index (negsuc n) = tile_origin - (n + 1)

-- the tx of a column, or the ty of a row
abbrev pub tile_coordinate : ℕ → ℤ
tile_coordinate n = pos n -ℤ pos tile_origin

-- the tile of tx and ty, neither below -2^18
abbrev pub tile_by : ℤ → ℤ → Tile
tile_by tx ty = record { column = tile_index tx; row = tile_index ty }

-- these numbers name a tile
pub record NameTile (tx ty : ℤ) : Type 0 where
  pub column_in_plane : tile_coordinate 0 ≤ℤ tx
  pub row_in_plane : tile_coordinate 0 ≤ℤ ty
  pub tile : IsTile (tile_by tx ty)

-- the column of the tile that contains a column, or the row of that which contains a row
abbrev pub tile_of : ℕ → ℕ
tile_of n = n / tile_side

-- the tile that contains the position
abbrev pub tile_at : ℕ → ℕ → Tile
tile_at u v = record { column = tile_of u; row = tile_of v }

-- all positions
abbrev pub plane : Rectangle
plane = record { first_column = 0; first_row = 0; width = plane_side; height = plane_side }

-- the 64 by 64 pixels of a tile
abbrev pub tile_square : Tile → Rectangle
tile_square t =
    record { first_column = tile_side * t.column; first_row = tile_side * t.row; width = tile_side; height = tile_side }

-- the tile begins in the plane, and so ends there
abbrev pub IsWhole : Tile → Type 0
IsWhole t = (t.column < last_tile) × (t.row < last_tile)

-- the positions of the plane that are in the tile
abbrev pub tile_rectangle : Tile → Rectangle
tile_rectangle t = meet (tile_square t) plane

-- two tiles are one
abbrev pub same_tile : Tile → Tile → Bool
same_tile a b = a.row == b.row && a.column == b.column

-- the order of tiles: row by row from the top, each row from the left
abbrev pub tile_cmp : Tile → Tile → Ordering
tile_cmp = then_cmp (on (λ t. t.row) nat_cmp) (on (λ t. t.column) nat_cmp)

-- some position of the rectangle is in the tile
abbrev pub Meets : Tile → Rectangle → Type 0
Meets t r = (u : ℕ) × (v : ℕ) × Inside u v r × (t ≡ tile_at u v)

-- a tile of a row above, or of the same row and further left
abbrev pub IsBefore : Tile → Tile → Type 0
IsBefore s t = (s.row < t.row) ⊎ ((s.row ≡ t.row) × (s.column < t.column))

-- so many tiles of a row, from a column on
abbrev pub tile_row : ℕ → ℕ → ℕ → List Tile
tile_row row column zero = []
tile_row row column (suc n) = record { column = column; row = row } ∷ tile_row row (suc column) n

-- so many rows from a row on, each of so many tiles from a column on
abbrev pub tile_rows : ℕ → ℕ → ℕ → ℕ → List Tile
tile_rows column columns row zero = []
tile_rows column columns row (suc n) =
    tile_row row column columns ++ tile_rows column columns (suc row) n

-- the exclusive end of the columns of the tiles that contain the columns before an end, or of the rows so
abbrev pub tile_end : ℕ → ℕ
tile_end n = div_ceil n tile_side

-- how many columns of tiles meet the rectangle
abbrev pub tile_columns : Rectangle → ℕ
tile_columns r = tile_end (end_column r) - tile_of r.first_column

-- how many rows of tiles meet it
abbrev pub tile_lines : Rectangle → ℕ
tile_lines r = tile_end (end_row r) - tile_of r.first_row

-- the tiles that meet the rectangle, row by row from the top, each row from the left
abbrev pub tiles : Rectangle → List Tile
tiles r = tile_rows (tile_of r.first_column) (tile_columns r) (tile_of r.first_row) (tile_lines r)

-- the tiles of rows of columns from first up to end that are left at a column and a row
abbrev pub tiles_left : ℕ → ℕ → ℕ → ℕ → ℕ → List Tile
tiles_left first end column row end_tile_row =
    if nat_lt row end_tile_row
    then tile_row row column (end - column) ++ tile_rows first (end - first) (suc row) (end_tile_row - suc row)
    else []

-- a column and a row at which tiles are left, or a row after the last
pub record AreLeft (first end column row end_tile_row : ℕ) : Type 0 where
  pub in_columns : end ≤ last_tile
  pub in_rows : end_tile_row ≤ last_tile
  pub after_first : row < end_tile_row → first ≤ column
  pub before_end : row < end_tile_row → column < end

-- some position of the rectangle is in the tile
abbrev pub meets : Tile → Rectangle → Bool
meets t r = has_positions (meet (tile_square t) r)

-- all positions of a row of tiles
abbrev pub tile_line : ℕ → Rectangle
tile_line row = record { first_column = 0; first_row = tile_side * row; width = plane_side; height = tile_side }

-- a request cut at the rows of tiles that it meets, from the top
abbrev pub strip_rectangles : Rectangle → List Rectangle
strip_rectangles request =
    map (λ row. meet request (tile_line row)) (range_with_len (tile_of request.first_row) (tile_lines request))
