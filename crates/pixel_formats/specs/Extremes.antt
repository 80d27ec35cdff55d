-- The smaller and the greater of the samples of two pixels.
use Rattle.std.specs.Prelude.{min, max}
use Rattle.pixel_formats.specs.Row.{Pixel}

-- the smaller sample in each channel
abbrev pub min_pixel : Pixel → Pixel → Pixel
min_pixel a b = λ channel. min (a channel) (b channel)

-- the greater sample in each channel
abbrev pub max_pixel : Pixel → Pixel → Pixel
max_pixel a b = λ channel. max (a channel) (b channel)
