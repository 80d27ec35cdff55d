-- Means of four tiles that are side by side, row by row.
use Rattle.std.specs.Prelude.{◌≡◌, ℕ, ◌+◌, ◌-◌, ◌*◌, ◌%◌, ◌<◌, List, Option, None, Some, nat_lt, if◌then◌else◌}
use Rattle.pixel_formats.specs.Average.{mean_pixel}
use Rattle.pixel_formats.specs.Format.{channels}
use Rattle.pixel_formats.specs.Row.{Pixel, pixel_at}
use Rattle.pixel_formats.specs.declared.format.Format.{Format}
use Rattle.level_tables.specs.declared.four_tiles.FourTiles.{FourTiles}

-- a pixel of a row of a tile, and zeros where there is no tile
abbrev pub found_pixel : Format → Option (List ℕ) → ℕ → ℕ → Pixel
found_pixel format None row k = λ c. 0
found_pixel format (Some bytes) row k = pixel_at format bytes (row * 64 + k)

-- the mean of two neighbors of a row of a tile and the two below them
abbrev pub mean_of_found : Format → Option (List ℕ) → ℕ → ℕ → Pixel
mean_of_found format found row k =
    mean_pixel
    (found_pixel format found row (2 * k))
    (found_pixel format found row (2 * k + 1))
    (found_pixel format found (row + 1) (2 * k))
    (found_pixel format found (row + 1) (2 * k + 1))

-- the left and the right tile that are averaged for a row of the tile of the next level
abbrev pub left_of : FourTiles → ℕ → Option (List ℕ)
left_of four row = if nat_lt row 32 then four.upper_left else four.lower_left

abbrev pub right_of : FourTiles → ℕ → Option (List ℕ)
right_of four row = if nat_lt row 32 then four.upper_right else four.lower_right

-- a pixel of a row of the tile of the next level
abbrev pub mean_in_row : Format → FourTiles → ℕ → ℕ → Pixel
mean_in_row format four row k =
    if nat_lt k 32 then mean_of_found format (left_of four row) (2 * row % 64) k
    else mean_of_found format (right_of four row) (2 * row % 64) (k - 32)

-- The first rows of the bytes of a tile are those of the tile of the next level.
pub record HasMeans (format : Format) (four : FourTiles) (rows : ℕ) (bytes : List ℕ) : Type 0 where
  pub each : (row k c : ℕ) → row < rows → k < 64 → c < channels format →
      pixel_at format bytes (row * 64 + k) c ≡ mean_in_row format four row k c
