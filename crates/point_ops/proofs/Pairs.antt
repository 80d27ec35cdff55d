-- Rows of pixels that are made of two rows.
use Rattle.std.proofs.Common.{◌≡◌, ℕ, ◌-◌, ◌<◌, List, length, sym, ap, ◌∙◌, subst, arith}
use Rattle.plane_rect.specs.Rectangle.{Rectangle, offset}
use Rattle.pixel_formats.specs.Format.{channels, max_sample}
use Rattle.pixel_formats.specs.Over.{composited}
use Rattle.pixel_formats.specs.Row.{HasPixels, Pixel, pixel_at}
use Rattle.pixel_formats.specs.Sample.{added, scaled_by}
use Rattle.pixel_formats.specs.declared.format.Format.{Format}
use Rattle.model_images.specs.FromRaw.{image_from_raw}
use Rattle.model_images.specs.Image.{Image, at, image_from_fn}
use Rattle.point_ops.specs.Combinations.{Suit, combined_pixel}
use Rattle.op_contracts.specs.PartBytes.{AreRawBytesOf}
use Rattle.point_ops.specs.declared.combine.Combination.{Combination}
use Rattle.point_ops.specs.declared.combine.Combination.TheVariants.{Add, Over, Mask}
use Rattle.point_ops.proofs.Agreeing.{Agree, last_channel}
use Rattle.op_contracts.proofs.Pixels.{image-of_pixels}

combined-agrees : (combination : Combination) (f g : Format) (p p' q q' : Pixel) (c : ℕ) → Suit combination f g → Agree (channels f) p p' → Agree (channels g) q q' → c < channels f
    → combined_pixel combination f p q c ≡ combined_pixel combination f p' q' c
combined-agrees Add f g p p' q q' c suit first second known =
    ap (λ (x : ℕ). added (max_sample f) x (q c)) (first c known)
    ∙ ap (λ (x : ℕ). added (max_sample f) (p' c) x) (second c (subst (λ (h : Format). c < channels h) (sym suit) known))
combined-agrees Over f g p p' q q' c suit first second known =
    ap (λ (x : ℕ). composited (max_sample f) x (p c) (q c)) (first (channels f - 1) (last_channel f))
    ∙ ap (λ (x : ℕ). composited (max_sample f) (p' (channels f - 1)) x (q c)) (first c known)
    ∙ ap (λ (x : ℕ). composited (max_sample f) (p' (channels f - 1)) (p' c) x) (second c (subst (λ (h : Format). c < channels h) (sym suit.0) known))
combined-agrees Mask f g p p' q q' c suit first second known =
    ap (λ (x : ℕ). scaled_by (max_sample f) x (q 0)) (first c known)
    ∙ ap (λ (x : ℕ). scaled_by (max_sample f) (p' c) x) (second 0 (omega (arith, suit.0)))

-- the raw bytes of two images over a rectangle
module _ (a b : Image) (r : Rectangle) (first second : List ℕ) (are : AreRawBytesOf a r first) (also : AreRawBytesOf b r second) where
  pub combined-image : (combination : Combination) (dst : List ℕ) → Suit combination a.format b.format → length dst ≡ length first
      → HasPixels a.format dst (λ k. combined_pixel combination a.format (pixel_at a.format first k) (pixel_at b.format second k))
      → image_from_raw r a.format dst ≡ image_from_fn r a.format (λ u v. combined_pixel combination a.format (at a u v) (at b u v))
  combined-image combination dst suit count has =
      image-of_pixels r a.format dst (λ k. combined_pixel combination a.format (pixel_at a.format first k) (pixel_at b.format second k))
      (λ u v. combined_pixel combination a.format (at a u v) (at b u v)) (count ∙ are.whole) has
      (λ u v c there known.
      combined-agrees combination a.format b.format (pixel_at a.format first (offset r u v)) (at a u v) (pixel_at b.format second (offset r u v)) (at b u v) c suit
      (λ k few. are.samples u v k there few) (λ k few. also.samples u v k there few) known)

pub combined-of : (a b : Image) (r : Rectangle) (first second : List ℕ) → AreRawBytesOf a r first → AreRawBytesOf b r second → (combination : Combination)
    (f g : Format) (dst : List ℕ) → Suit combination a.format b.format → f ≡ a.format → g ≡ b.format → length dst ≡ length first
    → HasPixels f dst (λ k. combined_pixel combination f (pixel_at f first k) (pixel_at g second k))
    → image_from_raw r f dst ≡ image_from_fn r a.format (λ u v. combined_pixel combination a.format (at a u v) (at b u v))
combined-of a b r first second are also combination f g dst suit is other count has =
    let Has : Format → Format → Type 0 = λ x y. HasPixels x dst (λ k. combined_pixel combination x (pixel_at x first k) (pixel_at y second k)) in
    ap (λ (x : Format). image_from_raw r x dst) is
    ∙ combined-image a b r first second are also combination dst suit count
    (subst (λ (y : Format). Has a.format y) other (subst (λ (x : Format). Has x g) is has))
