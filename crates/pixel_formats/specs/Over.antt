-- One pixel composited over another.
use Rattle.std.specs.Prelude.{ℕ, ◌-◌}
use Rattle.pixel_formats.specs.declared.format.Format.{Format}
use Rattle.pixel_formats.specs.Add.{added}
use Rattle.pixel_formats.specs.Format.{channels, max_sample}
use Rattle.pixel_formats.specs.Mask.{scaled_by}
use Rattle.pixel_formats.specs.Row.{Pixel}

-- a sample over another: what its pixel's alpha leaves of the lower is added
abbrev pub composited : ℕ → ℕ → ℕ → ℕ → ℕ
composited max_sample alpha top bottom = added max_sample top (scaled_by max_sample bottom (max_sample - alpha))

-- the upper pixel over the lower one, in every channel
abbrev pub over_pixel : Format → Pixel → Pixel → Pixel
over_pixel format top bottom =
    λ channel. composited (max_sample format) (top (channels format - 1)) (top channel) (bottom channel)
