-- The laws of images that are painted and cut.
use Rattle.std.proofs.Common.{◌≡◌, ℕ, ◌<◌, cond, refl, sym, ◌∙◌}
use Rattle.plane_rect.specs.Rectangle.{Rectangle, Inside}
use Rattle.pixel_formats.specs.Format.{channels}
use Rattle.pixel_formats.specs.declared.format.Format.{Format}
use Rattle.model_images.specs.Agreement.{AgreeOutside}
use Rattle.model_images.specs.Image.{Image, at, image_from_fn, is_inside}
use Rattle.model_images.specs.Paint.{cut, painted}
use Rattle.model_images.proofs.Agreeing.{at-by_channels, at-cut}
use Rattle.model_images.proofs.Laws.{at-image_from_fn, at_outside, generated_equal}
use Rattle.model_images.proofs.Positions.{by_positions, not_inside}
use Rattle.model_images.proofs.Samples.{inside_where}

pub at-painted : (image : Image) (r : Rectangle) (f : ℕ → ℕ → ℕ → ℕ) (u v c : ℕ) → Inside u v r → Inside u v image.box → c < channels image.format
    → at (painted image r f) u v c ≡ f u v c
at-painted image r f u v c there inside few =
    at-image_from_fn image.box image.format (λ u v c. cond (is_inside u v r) (f u v c) (at image u v c)) u v c inside few
    ∙ rw (inside_where u v r there) refl

pub painted-outside : (image : Image) (r : Rectangle) (f : ℕ → ℕ → ℕ → ℕ) (u v c : ℕ) → (Inside u v r → ⊥) → at image u v c ≡ at (painted image r f) u v c
painted-outside image r f u v c out =
    by_positions _ u v image.box
    (λ inside. at-by_channels image (painted image r f) u v c refl
    (λ few. sym (at-image_from_fn image.box image.format (λ u v c. cond (is_inside u v r) (f u v c) (at image u v c)) u v c inside few
    ∙ (let there_not = not_inside u v r out in rw there_not refl))))
    (λ past. at_outside image u v c past ∙ sym (at_outside (painted image r f) u v c past))

pub AgreeOutside-painted : (image : Image) (r : Rectangle) (f : ℕ → ℕ → ℕ → ℕ) → AgreeOutside image (painted image r f) r
AgreeOutside-painted image r f = record { box = refl; format = refl; samples = painted-outside image r f }

pub AgreeOutside-cut : (a b : Image) (extent r : Rectangle) → AgreeOutside a b r → AgreeOutside (cut a extent) (cut b extent) r
AgreeOutside-cut a b extent r agreed = record {
  box = refl;
  format = agreed.format;
  samples = λ u v c out. by_positions _ u v extent
      (λ h. at-cut a extent u v c h ∙ agreed.samples u v c out ∙ sym (at-cut b extent u v c h))
      (λ past. at_outside (cut a extent) u v c past ∙ sym (at_outside (cut b extent) u v c past));
}

-- an image over its own box is itself
pub cut-image_from_fn : (box : Rectangle) (format : Format) (f : ℕ → ℕ → ℕ → ℕ) → cut (image_from_fn box format f) box ≡ image_from_fn box format f
cut-image_from_fn box format f = generated_equal box format (at (image_from_fn box format f)) f (at-image_from_fn box format f)
