-- The gain of a pixel.
use Rattle.std.specs.Prelude.{ℕ, ◌+◌, ◌*◌, ◌/◌, min}
use Rattle.pixel_formats.specs.declared.format.Format.{Format}
use Rattle.pixel_formats.specs.Recolor.{recolored}
use Rattle.pixel_formats.specs.Row.{Pixel}

-- num of den parts of a color, rounded to the nearest, and at most the cap
abbrev pub gained : ℕ → ℕ → ℕ → ℕ → ℕ
gained num den cap color = min cap ((color * num + den / 2) / den)

-- the pixel with each color multiplied
abbrev pub gained_pixel : Format → ℕ → ℕ → Pixel → Pixel
gained_pixel format num den = recolored format (gained num den)
