-- The threshold of a pixel.
use Rattle.std.specs.Prelude.{ℕ}
use Rattle.pixel_formats.specs.declared.format.Format.{Format}
use Rattle.pixel_formats.specs.Recolor.{recolored}
use Rattle.pixel_formats.specs.Row.{Pixel}
pub use Rattle.pixel_formats.specs.Sample.{thresholded}

-- the pixel with each color at its cap or at 0
abbrev pub thresholded_pixel : Format → ℕ → Pixel → Pixel
thresholded_pixel format threshold = recolored format (thresholded threshold)
