-- Mixtures of samples by the sample of a mask.
use Rattle.std.specs.Prelude.{ℕ, ◌+◌, ◌-◌, ◌*◌, ◌/◌}
use Rattle.pixel_formats.specs.declared.format.Format.{Format}
use Rattle.pixel_formats.specs.Format.{max_sample}
use Rattle.pixel_formats.specs.Row.{Pixel}

-- the mixture of two samples: all of the first where the weight is 0, all of the second where it is the largest sample
abbrev pub blended : ℕ → ℕ → ℕ → ℕ → ℕ
blended max_sample base made weight = (base * (max_sample - weight) + made * weight + max_sample / 2) / max_sample

-- the mixture of two pixels, in every channel
abbrev pub blended_pixel : Format → Pixel → Pixel → ℕ → Pixel
blended_pixel format base made weight = λ channel. blended (max_sample format) (base channel) (made channel) weight
