-- The inverse of a pixel.
use Rattle.std.specs.Prelude.{ℕ, ◌-◌}
use Rattle.pixel_formats.specs.declared.format.Format.{Format}
use Rattle.pixel_formats.specs.Recolor.{recolored}
use Rattle.pixel_formats.specs.Row.{Pixel}

-- a color subtracted from its cap: what is above the cap becomes 0
abbrev pub inverted : ℕ → ℕ → ℕ
inverted cap color = cap - color

-- the pixel with each color inverted
abbrev pub inverted_pixel : Format → Pixel → Pixel
inverted_pixel format = recolored format inverted
