-- Parts of images, from lines of tiles.
use Rattle.std.specs.Prelude.{◌≡◌, ℕ, ◌+◌, ◌-◌, ◌*◌, ◌/◌, ◌%◌, ◌<◌, List, [], length, slice_index_or, All}
use Rattle.plane_rect.specs.Rectangle.{Inside, Rectangle}
use Rattle.plane_rect.specs.Tile.{tile_at, tile_columns, tile_of, tile_square}
use Rattle.pixel_formats.specs.Format.{channels, pixel_bytes}
use Rattle.pixel_formats.specs.Row.{pixel_at}
use Rattle.pixel_formats.specs.declared.format.Format.{Format}
use Rattle.model_images.specs.FromRaw.{pixels_from_raw}
use Rattle.model_images.specs.Image.{Image, at}

-- the bytes are those of the first n pixels of an image over a part, row by row
pub record HasFirstPixels (image : Image) (part : Rectangle) (n : ℕ) (bytes : List ℕ) : Type 0 where
  pub count : length bytes ≡ n * pixel_bytes image.format
  pub pixels : (k c : ℕ) → k < n → c < channels image.format → pixel_at image.format bytes k c
      ≡ at image (part.first_column + k % part.width) (part.first_row + k / part.width) c

-- as many tiles as a line has from that of a part's first column to that of its last, each with a tile's bytes
pub record AreLineTiles (format : Format) (part : Rectangle) (tiles : List (List ℕ)) : Type 0 where
  pub count : length tiles ≡ tile_columns part
  pub lengths : All (λ bytes. length bytes ≡ 4096 * pixel_bytes format) tiles

-- the tiles of a line have the pixels of an image at each position of a part
abbrev pub HasLine : Image → Rectangle → ℕ → List (List ℕ) → Type 0
HasLine image part line tiles =
    (u v c : ℕ) → Inside u v part → tile_of v ≡ line → c < channels image.format →
    pixels_from_raw (tile_square (tile_at u v)) image.format (slice_index_or tiles (tile_of u - tile_of part.first_column) []) u v c ≡ at image u v c
