-- A pixel in another format.
use Rattle.std.specs.Prelude.{ℕ, Bool, nat_lt, if◌then◌else◌}
use Rattle.pixel_formats.specs.declared.format.Format.{Format}
use Rattle.pixel_formats.specs.Average.{mean_of_three}
use Rattle.pixel_formats.specs.Format.{channels, depth}
use Rattle.pixel_formats.specs.Recolor.{cap, is_alpha}
use Rattle.pixel_formats.specs.Row.{Pixel}
pub use Rattle.pixel_formats.specs.Sample.{rescaled}

-- the format has one color
abbrev pub is_gray : Format → Bool
is_gray format = nat_lt (channels format) 3

-- the gray of a pixel: its own, or the mean of its three colors
abbrev pub gray_of : Format → Pixel → ℕ
gray_of format pixel = if is_gray format then pixel 0 else mean_of_three (pixel 0) (pixel 1) (pixel 2)

-- a color of a pixel, where gray counts as all three
abbrev pub color_of : Format → Pixel → ℕ → ℕ
color_of format pixel channel = if is_gray format then pixel 0 else pixel channel

-- The pixel with the channels of another format, at its own depth. Alpha that is new is the largest sample, as the cap
-- of a format without alpha.
abbrev pub rechannelled : Format → Format → Pixel → Pixel
rechannelled from to pixel = λ channel.
    if is_alpha to channel then cap from pixel else (if is_gray to then gray_of from pixel else color_of from pixel channel)

-- the pixel in the other format: first its channels, then their depth
abbrev pub converted_pixel : Format → Format → Pixel → Pixel
converted_pixel from to pixel = λ channel. rescaled (depth from) (depth to) (rechannelled from to pixel channel)
