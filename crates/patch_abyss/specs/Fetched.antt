-- Rows that are read under a policy, and rows that are generated one after the other.
use Rattle.std.specs.Prelude.{◌≡◌, ℕ, ◌<◌, List}
use Rattle.plane_rect.specs.Rectangle.{Rectangle, Inside}
use Rattle.pixel_formats.specs.Format.{channels, max_sample}
use Rattle.pixel_formats.specs.Row.{Pixel}
use Rattle.pixel_formats.specs.declared.format.Format.{Format}
use Rattle.pixel_formats.specs.declared.abyss.Abyss.{Abyss}
use Rattle.pixel_formats.specs.declared.abyss.Abyss.TheVariants.{None, Clamp, Loop, Black, White}
use Rattle.model_images.specs.Abyss.{black_sample}
use Rattle.model_images.specs.FromRaw.{pixels_from_raw}

-- the sample that a policy gives for a channel where it reads nothing of the image
abbrev pub outside_sample : Abyss → Format → ℕ → ℕ
outside_sample None format c = 0
outside_sample Clamp format c = 0
outside_sample Loop format c = 0
outside_sample Black format c = black_sample format c
outside_sample White format c = max_sample format

-- The pixels of a rectangle's bytes are, in so many rows from its top, what f gives for their positions.
pub record RowsFilled (box : Rectangle) (format : Format) (f : ℕ → ℕ → Pixel) (rows : ℕ) (bytes : List ℕ) : Type 0 where
  pub generated : (u v c : ℕ) → Inside u v (record box { height = rows }) → c < channels format →
      pixels_from_raw box format bytes u v c ≡ f u v c
