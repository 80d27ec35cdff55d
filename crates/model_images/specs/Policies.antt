-- What the laws of the policies say.
use Rattle.std.specs.Prelude.{◌≡◌, ℕ, ◌<◌}
use Rattle.plane_rect.specs.Rectangle.{Inside, Rectangle}
use Rattle.pixel_formats.specs.Format.{max_sample}
use Rattle.pixel_formats.specs.declared.abyss.Abyss.{Abyss}
use Rattle.pixel_formats.specs.declared.abyss.Abyss.TheVariants.{None, Clamp, Loop, Black, White}
use Rattle.pixel_formats.specs.declared.format.Format.{Format}
use Rattle.model_images.specs.Abyss.{abyss_at, black_sample}
use Rattle.model_images.specs.Image.{Image, at}

-- A policy gives everywhere the sample of the position that a rule moves to, which is in the box if any is.
pub record MovesInside (policy : Abyss) (moved : ℕ → ℕ → ℕ → ℕ) : Type 0 where
  pub sample : (image : Image) (u v c : ℕ) → abyss_at image policy u v c
      ≡ at image (moved image.box.first_column image.box.width u) (moved image.box.first_row image.box.height v) c
  pub position : (box : Rectangle) (u v : ℕ) → 0 < box.width → 0 < box.height
      → Inside (moved box.first_column box.width u) (moved box.first_row box.height v) box

-- the sample that a policy gives for a channel where an image has no position at all
abbrev pub empty_sample : Format → Abyss → ℕ → ℕ
empty_sample format None c = 0
empty_sample format Clamp c = 0
empty_sample format Loop c = 0
empty_sample format Black c = black_sample format c
empty_sample format White c = max_sample format
