-- Bands of rows of tiles, by which a raster is loaded, the last one first.
use Rattle.std.specs.Prelude.{◌≡◌, ℕ, ◌*◌, ◌/◌, ◌<◌, ◌≤◌, ◌⊎◌}
use Rattle.pixel_formats.specs.Format.{pixel_bytes}
use Rattle.pixel_formats.specs.declared.format.Format.{Format}
use Rattle.plane_rect.specs.Rectangle.{Rectangle, end_column, end_row, spanning}
use Rattle.plane_rect.specs.Tile.{tile_side}

-- the columns of a rectangle in rows from a first up to an end
abbrev pub rows_between : Rectangle → ℕ → ℕ → Rectangle
rows_between r first end = spanning r.first_column first (end_column r) end

-- how many raw bytes so many rows have
abbrev pub bytes_of_rows : Rectangle → Format → ℕ → ℕ
bytes_of_rows r format rows = r.width * rows * pixel_bytes format

-- The rows from a row on, the last ones, may have been put, and others are left: no tile has rows of both.
pub record IsReached (r : Rectangle) (end : ℕ) : Type 0 where
  pub first : r.first_row ≤ end
  pub some : r.first_row < end_row r → r.first_row < end
  pub last : end ≤ end_row r
  pub edge : (end ≡ end_row r) ⊎ (end ≡ tile_side * (end / tile_side))

-- A band of rows up to an end begins at a row: it has one where some are left.
pub record BeginsBand (r : Rectangle) (end row : ℕ) : Type 0 where
  pub first : r.first_row ≤ row
  pub last : row ≤ end
  pub some : r.first_row < end → row < end
  pub edge : (row ≡ r.first_row) ⊎ (row ≡ tile_side * (row / tile_side))
