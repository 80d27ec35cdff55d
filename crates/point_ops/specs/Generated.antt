-- Images that are generated without an input.
use Rattle.std.specs.Prelude.{◌≡◌, ℕ, ◌%◌, ◌==◌, if◌then◌else◌, List, length}
use Rattle.plane_rect.specs.Rectangle.{Rectangle}
use Rattle.pixel_formats.specs.Format.{max_sample}
use Rattle.pixel_formats.specs.Recolor.{is_alpha}
use Rattle.pixel_formats.specs.Row.{Pixel}
use Rattle.pixel_formats.specs.declared.format.Format.{Format}
use Rattle.model_images.specs.FromRaw.{byte_count, image_from_raw}
use Rattle.model_images.specs.Image.{image_from_fn}
use Rattle.model_operations.specs.Values.{checker_pixel, square_number}

-- the pixel of one value in its colors, and of full alpha
abbrev pub opaque_pixel : Format → ℕ → Pixel
opaque_pixel format value = λ channel. if is_alpha format channel then max_sample format else value

-- what a column, or a row, has whose square has an even number, and what one has beside it
abbrev pub by_square : ℕ → List ℕ → List ℕ → ℕ → List ℕ
by_square size even odd u = if square_number size u % 2 == 0 then even else odd

-- The bytes are the raw ones of a checkerboard over a rectangle: as many as it has, and they decode to its pixels.
pub record IsCheckerboard (format : Format) (size v1 v2 : ℕ) (r : Rectangle) (bytes : List ℕ) : Type 0 where
  pub count : length bytes ≡ byte_count r format
  pub image : image_from_raw r format bytes ≡ image_from_fn r format (checker_pixel format size v1 v2)
