-- Images and the raw bytes from which their samples are decoded.
use Rattle.std.specs.Prelude.{◌≡◌, ℕ, ◌*◌, ◌<◌, List, length, slice_index}
use Rattle.plane_rect.specs.Rectangle.{Rectangle, IsRectangle, InLimits, area}
use Rattle.pixel_formats.specs.Format.{channels, depth, pixel_bytes}
use Rattle.pixel_formats.specs.Row.{Pixel, sample_at}
use Rattle.pixel_formats.specs.declared.format.Format.{Format}
use Rattle.model_images.specs.Image.{Image, image_from_fn, sample_index}

-- the pixels that are decoded from the raw bytes of a box
abbrev pub pixels_from_raw : Rectangle → Format → List ℕ → ℕ → ℕ → Pixel
pixels_from_raw box format bytes u v c = sample_at (depth format) bytes (sample_index box (channels format) u v c)

-- the image of a box and a format that is decoded from the raw bytes of the box
abbrev pub image_from_raw : Rectangle → Format → List ℕ → Image
image_from_raw box format bytes = image_from_fn box format (pixels_from_raw box format bytes)

-- how many raw bytes a rectangle has
abbrev pub byte_count : Rectangle → Format → ℕ
byte_count box format = area box * pixel_bytes format

-- each number is a byte
abbrev pub AreBytes : List ℕ → Type 0
AreBytes bytes = (k : ℕ) → slice_index bytes k < 256

-- the bytes are as many as those of a rectangle of an image in limits
pub record IsRaw (box : Rectangle) (format : Format) (bytes : List ℕ) : Type 0 where
  pub rectangle : IsRectangle box
  pub limits : InLimits box
  pub whole : length bytes ≡ byte_count box format
  pub small : AreBytes bytes
