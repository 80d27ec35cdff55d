-- Pixels that are changed, each by itself.
use Rattle.std.specs.Prelude.{◌<◌}
use Rattle.pixel_formats.specs.Convert.{converted_pixel}
use Rattle.pixel_formats.specs.Gain.{gained_pixel}
use Rattle.pixel_formats.specs.Invert.{inverted_pixel}
use Rattle.pixel_formats.specs.Row.{Pixel}
use Rattle.pixel_formats.specs.Threshold.{thresholded_pixel}
use Rattle.pixel_formats.specs.declared.format.Format.{Format}
use Rattle.point_ops.specs.declared.change.Change.{Change}
use Rattle.point_ops.specs.declared.change.Change.TheVariants.{Convert, Invert, Threshold, Gain}

-- the format of changed pixels
abbrev pub changed_format : Change → Format → Format
changed_format (Convert format) from = format
changed_format Invert from = from
changed_format (Threshold level) from = from
changed_format (Gain num den) from = from

-- a changed pixel
abbrev pub changed_pixel : Change → Format → Pixel → Pixel
changed_pixel (Convert format) from = converted_pixel from format
changed_pixel Invert from = inverted_pixel from
changed_pixel (Threshold level) from = thresholded_pixel from level
changed_pixel (Gain num den) from = gained_pixel from num den

-- what the change divides by isn't 0
abbrev pub HasDivisor : Change → Type 0
HasDivisor (Convert format) = Unit {0}
HasDivisor Invert = Unit {0}
HasDivisor (Threshold level) = Unit {0}
HasDivisor (Gain num den) = 0 < den
