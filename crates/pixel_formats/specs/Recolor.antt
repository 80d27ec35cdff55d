-- Pixels whose colors are changed, each by itself, while alpha stays.
use Rattle.std.specs.Prelude.{ℕ, ◌+◌, ◌-◌, Bool, ◌&&◌, ◌==◌, if◌then◌else◌}
use Rattle.pixel_formats.specs.declared.format.Format.{Format}
use Rattle.pixel_formats.specs.Format.{channels, has_alpha, max_sample}
use Rattle.pixel_formats.specs.Row.{Pixel}

-- the channel is the alpha of the format
abbrev pub is_alpha : Format → ℕ → Bool
is_alpha format channel = has_alpha format && channel + 1 == channels format

-- what a color of the pixel is at most: its alpha, or the largest sample where the format has no alpha
abbrev pub cap : Format → Pixel → ℕ
cap format pixel = if has_alpha format then pixel (channels format - 1) else max_sample format

-- the pixel with each color changed by a function of the cap and the color
abbrev pub recolored : Format → (ℕ → ℕ → ℕ) → Pixel → Pixel
recolored format change pixel =
    λ channel. if is_alpha format channel then pixel channel else change (cap format pixel) (pixel channel)
