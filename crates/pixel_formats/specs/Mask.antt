-- Samples scaled by others.
use Rattle.std.specs.Prelude.{ℕ}
use Rattle.pixel_formats.specs.declared.format.Format.{Format}
use Rattle.pixel_formats.specs.Format.{max_sample}
use Rattle.pixel_formats.specs.Row.{Pixel}
pub use Rattle.pixel_formats.specs.Sample.{scaled_by}

-- the pixel with each sample scaled
abbrev pub masked_pixel : Format → Pixel → ℕ → Pixel
masked_pixel format pixel weight = λ channel. scaled_by (max_sample format) (pixel channel) weight
