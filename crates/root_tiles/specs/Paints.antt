-- What is written over rectangles of roots.
use Rattle.std.specs.Prelude.{◌≡◌, ℕ, ◌+◌, ◌*◌, ◌<◌, List, length, if◌then◌else◌}
use Rattle.plane_rect.specs.Rectangle.{Inside, Rectangle}
use Rattle.plane_rect.specs.Tile.{Tile, tile_square}
use Rattle.pixel_formats.specs.Format.{channels, depth, pixel_bytes}
use Rattle.pixel_formats.specs.Row.{Pixel, sample_at}
use Rattle.pixel_formats.specs.declared.format.Format.{Format}
use Rattle.model_images.specs.FromRaw.{byte_count, pixels_from_raw}
use Rattle.model_images.specs.Image.{is_inside}
use Rattle.model_images.specs.Tiles.{HeldTiles, held_pixels}
use Rattle.root_tiles.specs.declared.paint.Paint.{Paint}
use Rattle.root_tiles.specs.declared.paint.Paint.TheVariants.{Raw, Solid}

-- the bytes of a tile have the same pixel at each position
pub record IsSolid (format : Format) (bytes : List ℕ) : Type 0 where
  pub whole : length bytes ≡ 4096 * pixel_bytes format
  pub even : (k c : ℕ) → k < 4096 → c < channels format
      → sample_at (depth format) bytes (k * channels format + c) ≡ sample_at (depth format) bytes c

-- what is written is raw bytes of the whole rectangle, or one pixel everywhere
abbrev pub IsPaint : Format → Rectangle → Paint → Type 0
IsPaint format r (Raw bytes) = length bytes.now ≡ byte_count r format
IsPaint format r (Solid tile) = IsSolid format tile.now

-- the samples that are written
abbrev pub paint_pixels : Format → Rectangle → Paint → ℕ → ℕ → Pixel
paint_pixels format r (Raw bytes) = pixels_from_raw r format bytes.now
paint_pixels format r (Solid tile) = λ u v c. sample_at (depth format) tile.now c

-- Raw bytes paint a part of a rectangle: they are those of a rectangle between the two, with f's samples.
pub record Paints (format : Format) (r part : Rectangle) (f : ℕ → ℕ → Pixel) (between : Rectangle) (bytes : List ℕ) : Type 0 where
  pub count : length bytes ≡ byte_count between format
  pub within : (u v : ℕ) → Inside u v between → Inside u v r
  pub covers : (u v : ℕ) → Inside u v part → Inside u v between
  pub pixels : (u v c : ℕ) → Inside u v between → c < channels format → pixels_from_raw between format bytes u v c ≡ f u v c

-- The bytes of a tile have f's samples over a rectangle, and else those of the tile as it is held.
abbrev pub IsPainted : Format → HeldTiles → Rectangle → (ℕ → ℕ → Pixel) → Tile → List ℕ → Type 0
IsPainted format held r f tile bytes =
    (u v c : ℕ) → Inside u v (tile_square tile) → c < channels format
    → pixels_from_raw (tile_square tile) format bytes u v c ≡ (if is_inside u v r then f u v c else held_pixels format held u v c)
