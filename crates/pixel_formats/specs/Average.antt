-- Means of pixels.
use Rattle.pixel_formats.specs.Row.{Pixel}
pub use Rattle.pixel_formats.specs.Sample.{mean_of_four, mean_of_three}

-- the mean of four pixels, in each channel
abbrev pub mean_pixel : Pixel → Pixel → Pixel → Pixel → Pixel
mean_pixel a b c d = λ channel. mean_of_four (a channel) (b channel) (c channel) (d channel)
