-- Patches that have a part of an image.
use Rattle.std.proofs.Common.{◌≡◌, ℕ, ◌<◌, inl, inr, sym, ap, subst, ◌∙◌}
use Rattle.plane_rect.specs.Rectangle.{Inside, Rectangle, meet}
use Rattle.plane_rect.proofs.Rectangles.{Inside-meet}
use Rattle.pixel_formats.specs.Format.{channels}
use Rattle.pixel_formats.specs.declared.format.Format.{Format}
use Rattle.model_images.specs.Image.{Image, IsImage, at, image_from_fn}
use Rattle.model_images.specs.Paint.{blank, cut}
use Rattle.model_images.proofs.Laws.{at-image_from_fn, at_outside, generated_equal, image_from_fn-at}
use Rattle.strip_patches.specs.Nodes.{HasPart}

-- a patch over the rectangle that was zero is then that part of the image
pub part-cut : (image patch : Image) (rect : Rectangle) → IsImage patch → patch.box ≡ rect → patch.format ≡ image.format
    → HasPart image rect (blank rect image.format) patch → patch ≡ cut image rect
part-cut image patch rect whole box format part =
    sym (image_from_fn-at patch whole)
    ∙ generated_equal patch.box patch.format (at patch) (at image) same
    ∙ ap (λ (r : Rectangle). image_from_fn r patch.format (at image)) box
    ∙ ap (λ (f : Format). image_from_fn rect f (at image)) format
  where
    outside : (u v c : ℕ) → Inside u v patch.box → c < channels patch.format → (at patch u v c ≡ at (blank rect image.format) u v c)
        → (¬ Inside u v (meet rect image.box)) → at patch u v c ≡ at image u v c
    outside u v c there known zero out =
        let here = subst (λ (r : Rectangle). Inside u v r) box there in
        zero
        ∙ at-image_from_fn rect image.format (λ u v c. 0) u v c here (subst (λ (f : Format). c < channels f) format known)
        ∙ sym (at_outside image u v c (λ inside. out ((Inside-meet u v rect image.box).1 (here, inside))))

    same : (u v c : ℕ) → Inside u v patch.box → c < channels patch.format → at patch u v c ≡ at image u v c
    same u v c there known = elim (part.samples u v c there known) [
      | inl is ↦ is
      | inr kept ↦ outside u v c there known kept.0 kept.1
    ]
