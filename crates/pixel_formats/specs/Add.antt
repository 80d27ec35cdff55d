-- The sum of two pixels.
use Rattle.pixel_formats.specs.declared.format.Format.{Format}
use Rattle.pixel_formats.specs.Format.{max_sample}
use Rattle.pixel_formats.specs.Row.{Pixel}
pub use Rattle.pixel_formats.specs.Sample.{added}

-- the sums in each channel
abbrev pub added_pixel : Format → Pixel → Pixel → Pixel
added_pixel format a b = λ channel. added (max_sample format) (a channel) (b channel)
