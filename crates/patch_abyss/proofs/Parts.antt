-- The samples of bytes that are copied between rectangles.
use Rattle.std.proofs.Common.{◌≡◌, ℕ, ◌+◌, ◌*◌, ◌<◌, true, false, cond, List, replicate, refl, sym, ◌∙◌, arith}
use Rattle.std.proofs.lemmas.Nat.{mul-add-lt}
use Rattle.plane_rect.specs.Rectangle.{Rectangle, Inside, offset}
use Rattle.pixel_formats.specs.Format.{channels, depth, pixel_bytes}
use Rattle.pixel_formats.specs.declared.format.Format.{Format}
use Rattle.pixel_formats.proofs.FormatLaws.{sample_equal}
use Rattle.model_images.specs.Image.{at, is_inside, sample_index}
use Rattle.model_images.specs.Paint.{painted}
use Rattle.model_images.proofs.Samples.{Inside_from, inside_where}
use Rattle.model_images.proofs.Laws.{generated_equal, at_outside}
use Rattle.model_images.specs.FromRaw.{image_from_raw, pixels_from_raw}
use Rattle.patch_abyss.specs.Copied.{HasPart, byte_at}
use Rattle.pixel_formats.proofs.Zeros.{get_or-zeros}
use Rattle.model_images.proofs.FromRawLaws.{sample_zero, at-image_from_raw}

-- where the bytes of a sample are
pub byte_index : (o m d c k : ℕ) → d * (o * m + c) + k ≡ o * (m * d) + (d * c + k)
byte_index o m d c k = omega arith

pub byte_within : (m d c k : ℕ) → c < m → k < d → d * c + k < m * d
byte_within m d c k known within = omega (arith, mul-add-lt c d k m known within)

-- samples of pixels whose bytes are equal
pub pixels_equal : (a b : Rectangle) (format : Format) (xs ys : List ℕ) (u v c : ℕ) → c < channels format →
    ((k : ℕ) → k < pixel_bytes format → byte_at a (pixel_bytes format) xs u v k ≡ byte_at b (pixel_bytes format) ys u v k) →
    pixels_from_raw a format xs u v c ≡ pixels_from_raw b format ys u v c
pixels_equal a b format xs ys u v c known same =
    let m = channels format in
    let d = depth format in
    sample_equal d xs ys (sample_index a m u v c) (sample_index b m u v c)
    (λ k within. rw (byte_index (offset a u v) m d c k, byte_index (offset b u v) m d c k) (same (d * c + k) (byte_within m d c k known within)))

pub pixels_zero : (a : Rectangle) (format : Format) (n u v c : ℕ) → pixels_from_raw a format (replicate n 0) u v c ≡ 0
pixels_zero a format n u v c = sample_zero (depth format) (replicate n 0) (sample_index a (channels format) u v c) (λ k below. get_or-zeros n _)

-- the bytes of a rectangle, with those of an image where it has positions
module _ (to from part : Rectangle) (format : Format) (source old new : List ℕ)
    (both : (u v : ℕ) → Inside u v to → Inside u v from → Inside u v part) (alone : (u v : ℕ) → Inside u v part → Inside u v from)
    (has : HasPart to from part (pixel_bytes format) source old new) where
  pub pixels-inside : (u v c : ℕ) → Inside u v to → Inside u v from → c < channels format → pixels_from_raw to format new u v c ≡ at (image_from_raw from format source) u v c
  pixels-inside u v c there inside known =
      pixels_equal to from format new source u v c known (λ k within. has.copied u v k (both u v there inside) within)
      ∙ sym (at-image_from_raw from format source u v c inside known)

  pub pixels-outside : (u v c : ℕ) → Inside u v to → (Inside u v from → ⊥) → c < channels format → pixels_from_raw to format new u v c ≡ pixels_from_raw to format old u v c
  pixels-outside u v c there out known =
      pixels_equal to to format new old u v c known (λ k within. has.kept u v k there (λ h. out (alone u v h)) within)

  pub blitted : image_from_raw to format new ≡ painted (image_from_raw to format old) from (at (image_from_raw from format source))
  blitted =
      let f : ℕ → ℕ → ℕ → ℕ = λ u v c. cond (is_inside u v from) (at (image_from_raw from format source) u v c) (at (image_from_raw to format old) u v c) in
      generated_equal to format (pixels_from_raw to format new) f
      (λ u v c there known.
      elim (is_inside u v from) as (λ b. is_inside u v from ≡ b → pixels_from_raw to format new u v c ≡ cond b (at (image_from_raw from format source) u v c) (at (image_from_raw to format old) u v c)) [
        | true ↦ λ e. pixels-inside u v c there (Inside_from u v from e) known
        | false ↦ λ e. pixels-outside u v c there (λ h. cc (sym (inside_where u v from h) ∙ e)) known ∙ sym (at-image_from_raw to format old u v c there known)
      ] refl)

pub part_generated : (to from part : Rectangle) (format : Format) (n : ℕ) (source new : List ℕ) →
    ((u v : ℕ) → Inside u v to → Inside u v from → Inside u v part) → ((u v : ℕ) → Inside u v part → Inside u v from) →
    HasPart to from part (pixel_bytes format) source (replicate n 0) new →
    (u v c : ℕ) → Inside u v to → c < channels format → pixels_from_raw to format new u v c ≡ at (image_from_raw from format source) u v c
part_generated to from part format n source new both alone has u v c there known =
    elim (is_inside u v from) as (λ b. is_inside u v from ≡ b → pixels_from_raw to format new u v c ≡ at (image_from_raw from format source) u v c) [
      | true ↦ λ e. pixels-inside to from part format source (replicate n 0) new both alone has u v c there (Inside_from u v from e) known
      | false ↦ λ e.
          let out : Inside u v from → ⊥ = λ h. cc (sym (inside_where u v from h) ∙ e) in
          pixels-outside to from part format source (replicate n 0) new both alone has u v c there out known
          ∙ pixels_zero to format n u v c ∙ sym (at_outside (image_from_raw from format source) u v c out)
    ] refl
