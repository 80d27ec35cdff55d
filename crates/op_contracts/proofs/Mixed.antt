-- Images that are mixed by a mask.
use Rattle.std.proofs.Common.{◌≡◌, ℕ, ◌+◌, ◌*◌, ◌<◌, true, List, length, sym, ap, ◌∙◌, subst, arith}
use Rattle.std.proofs.lemmas.Bool.Decides.{nat_tests}
use Rattle.plane_rect.specs.Rectangle.{Inside, Rectangle, offset}
use Rattle.pixel_formats.specs.Blend.{blended, blended_pixel}
use Rattle.pixel_formats.specs.Format.{channels, depth, max_sample}
use Rattle.pixel_formats.specs.Row.{HasPixels, pixel_at, sample_at}
use Rattle.pixel_formats.specs.declared.format.Format.{Format}
use Rattle.model_images.specs.FromRaw.{image_from_raw}
use Rattle.model_images.specs.Image.{Image, at, image_from_fn}
use Rattle.model_images.specs.Raw.{raw}
use Rattle.model_images.proofs.RawLaws.{raw-samples}
use Rattle.model_graphs.specs.Filters.{is_mask_of}
use Rattle.op_contracts.specs.PartBytes.{AreRawBytesOf}
use Rattle.op_contracts.proofs.Pixels.{image-of_pixels}

-- a mask has one channel, as deep as that of the images it mixes
pub mask-channels : (mask format : Format) → is_mask_of mask format ≡ true → channels mask ≡ 1
mask-channels mask format suits = grind (arith, nat_tests)

pub mask-depth : (mask format : Format) → is_mask_of mask format ≡ true → depth mask ≡ depth format
mask-depth mask format suits = grind (arith, nat_tests)

-- the raw bytes of three images over a rectangle, the second as deep as the first, the third a mask
module _ (base made mask : Image) (r : Rectangle) (first second third dst : List ℕ) (are : AreRawBytesOf base r first) (is : second ≡ raw made r)
    (its : AreRawBytesOf mask r third) (same : made.format ≡ base.format) (suits : is_mask_of mask.format base.format ≡ true)
    (count : length dst ≡ length first) where
  made-sample : (u v c : ℕ) → Inside u v r → c < channels base.format → pixel_at base.format second (offset r u v) c ≡ at made u v c
  made-sample u v c there known =
      ap (λ (f : Format). pixel_at f second (offset r u v) c) (sym same)
      ∙ ap (λ (bytes : List ℕ). pixel_at made.format bytes (offset r u v) c) is
      ∙ raw-samples made r u v c there (subst (λ (f : Format). c < channels f) (sym same) known)

  mask-sample : (u v : ℕ) → Inside u v r → sample_at (depth base.format) third (offset r u v) ≡ at mask u v 0
  mask-sample u v there =
      let one = mask-channels mask.format base.format suits in
      let index : offset r u v ≡ offset r u v * channels mask.format + 0 = omega (arith, ap (λ n. offset r u v * n) one) in
      ap (λ (d : ℕ). sample_at d third (offset r u v)) (sym (mask-depth mask.format base.format suits))
      ∙ ap (sample_at (depth mask.format) third) index
      ∙ its.samples u v 0 there (omega (arith, one))

  mixed-image : HasPixels base.format dst (λ k. blended_pixel base.format (pixel_at base.format first k) (pixel_at base.format second k) (sample_at (depth base.format) third k))
      → image_from_raw r base.format dst ≡ image_from_fn r base.format (λ u v. blended_pixel base.format (at base u v) (at made u v) (at mask u v 0))
  mixed-image has =
      image-of_pixels r base.format dst
      (λ k. blended_pixel base.format (pixel_at base.format first k) (pixel_at base.format second k) (sample_at (depth base.format) third k))
      (λ u v. blended_pixel base.format (at base u v) (at made u v) (at mask u v 0)) (count ∙ are.whole) has
      (λ u v c there known.
      let k = offset r u v in
      let most = max_sample base.format in
      ap (λ (x : ℕ). blended most x (pixel_at base.format second k c) (sample_at (depth base.format) third k)) (are.samples u v c there known)
      ∙ ap (λ (x : ℕ). blended most (at base u v c) x (sample_at (depth base.format) third k)) (made-sample u v c there known)
      ∙ ap (blended most (at base u v c) (at made u v c)) (mask-sample u v there))

  pub mixed-of : (f : Format) → f ≡ base.format
      → HasPixels f dst (λ k. blended_pixel f (pixel_at f first k) (pixel_at f second k) (sample_at (depth f) third k))
      → image_from_raw r f dst ≡ image_from_fn r base.format (λ u v. blended_pixel base.format (at base u v) (at made u v) (at mask u v 0))
  mixed-of f format has =
      let Has : Format → Type 0 = λ x. HasPixels x dst (λ k. blended_pixel x (pixel_at x first k) (pixel_at x second k) (sample_at (depth x) third k)) in
      ap (λ (x : Format). image_from_raw r x dst) format ∙ mixed-image (subst Has format has)
