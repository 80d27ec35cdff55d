-- The pixels of rows that read a row of an image.
use Rattle.std.proofs.Common.{◌≡◌, ℕ, ◌+◌, ◌-◌, ◌%◌, ◌<◌, ◌≤◌, List, inl, inr, sym, ap, ◌∙◌, arith}
use Rattle.std.proofs.lemmas.Bool.{cases_lt}
use Rattle.plane_rect.specs.Rectangle.{Within}
use Rattle.pixel_formats.specs.Format.{channels, pixel_bytes}
use Rattle.pixel_formats.specs.Row.{pixel_at}
use Rattle.model_images.specs.Image.{Image, at}
use Rattle.pixel_formats.specs.declared.abyss.Abyss.{Abyss}
use Rattle.pixel_formats.specs.declared.abyss.Abyss.TheVariants.{Clamp, Loop}
use Rattle.model_images.specs.Abyss.{abyss_at, nearest, wrapped}
use Rattle.model_images.proofs.PolicyLaws.{abyss_at-inside, clamp-everywhere, loop-everywhere}
use Rattle.model_images.proofs.Sides.{nearest-inside, wrapped-within, wrapped-inside}
use Rattle.patch_abyss.specs.Fetched.{outside_sample}
use Rattle.patch_abyss.proofs.RowPixels.{SamePixel, pixel_moved}
use Rattle.patch_abyss.proofs.ReadRows.{outside-still, wrapped-more}

-- a row of the image's bytes whose first pixel has the number base among those of a list
module _ (image : Image) (v : ℕ) (from : List ℕ) (base : ℕ) (here : Within image.box.first_row image.box.height v)
    (samples : (u c : ℕ) → Within image.box.first_column image.box.width u → c < channels image.format →
    pixel_at image.format from (base + (u - image.box.first_column)) c ≡ at image u v c) where
  abbrev n : ℕ
  n = pixel_bytes image.format

  abbrev start : ℕ
  start = image.box.first_column

  abbrev len : ℕ
  len = image.box.width

  pub looped_pixel : (to : List ℕ) (i first_column first k c : ℕ) → 0 < len → first ≡ wrapped start len first_column - start → c < channels image.format →
      SamePixel n to i from (base + (first + k) % len) → pixel_at image.format to i c ≡ abyss_at image Loop (first_column + k) v c
  looped_pixel to i first_column first k c wide at_first known same =
      let w = wrapped start len (first_column + k) in
      let column : (first + k) % len ≡ w - start = ap (λ (i : ℕ). (i + k) % len) at_first ∙ sym (wrapped-more start len first_column k wide) in
      pixel_moved image.format to from i (base + (first + k) % len) c known same
      ∙ ap (λ (i : ℕ). pixel_at image.format from (base + i) c) column
      ∙ samples w c (wrapped-within start len (first_column + k) wide) known
      ∙ ap (λ (b : ℕ). at image w b c) (sym (wrapped-inside image.box.first_row image.box.height v here))
      ∙ sym (loop-everywhere image (first_column + k) v c)

  -- a pixel of a column left of the box, of one of it, or of one right of it
  module _ (to : List ℕ) (i first_column k c : ℕ) (known : c < channels image.format) (inside : Within start len (first_column + k) → SamePixel n to i from (base + (first_column + k - start))) where
    by_side : (P : ℕ → Type 0) → (first_column + k < start → P (pixel_at image.format to i c)) → (Within start len (first_column + k) → P (at image (first_column + k) v c)) →
        (start + len ≤ first_column + k → P (pixel_at image.format to i c)) → P (pixel_at image.format to i c)
    by_side P one two three =
        elim (cases_lt (first_column + k) start) [
          | inl lt ↦ one lt
          | inr from_here ↦
              elim (cases_lt (first_column + k) (start + len)) [
                | inl within ↦
                    let there : Within start len (first_column + k) = (from_here, within) in
                    rw (pixel_moved image.format to from i (base + (first_column + k - start)) c known (inside there) ∙ samples (first_column + k) c there known) (two there)
                | inr past ↦ three past
              ]
        ]

    pub clamped_pixel : 0 < len → (first_column + k < start → SamePixel n to i from base) → (start + len ≤ first_column + k → SamePixel n to i from (base + (len - 1))) →
        pixel_at image.format to i c ≡ abyss_at image Clamp (first_column + k) v c
    clamped_pixel wide first last =
        let row = nearest-inside image.box.first_row image.box.height v here in
        let clamped : (a : ℕ) → nearest start len (first_column + k) ≡ a → at image a v c ≡ abyss_at image Clamp (first_column + k) v c =
        λ a column.
        ap (λ (b : ℕ). at image b v c) (sym column)
        ∙ ap (λ (b : ℕ). at image (nearest start len (first_column + k)) b c) (sym row)
        ∙ sym (clamp-everywhere image (first_column + k) v c) in
        by_side (λ sample. sample ≡ abyss_at image Clamp (first_column + k) v c)
        (λ lt.
        pixel_moved image.format to from i base c known (first lt)
        ∙ ap (λ (i : ℕ). pixel_at image.format from i c) (omega arith)
        ∙ samples start c (omega arith, omega arith) known
        ∙ clamped start (omega arith))
        (λ there. clamped (first_column + k) (omega (arith, there.0, there.1)))
        (λ past.
        pixel_moved image.format to from i (base + (len - 1)) c known (last past)
        ∙ ap (λ (i : ℕ). pixel_at image.format from i c) (omega arith)
        ∙ samples (start + len - 1) c (omega arith, omega arith) known
        ∙ clamped (start + len - 1) (omega arith))

    pub still_pixel : (policy : Abyss) (outside : List ℕ) → (policy ≡ Clamp → ⊥) → (policy ≡ Loop → ⊥) → pixel_at image.format outside 0 c ≡ outside_sample policy image.format c →
        (first_column + k < start → SamePixel n to i outside 0) → (start + len ≤ first_column + k → SamePixel n to i outside 0) → pixel_at image.format to i c ≡ abyss_at image policy (first_column + k) v c
    still_pixel policy outside clamp loop sample first last =
        by_side (λ sample. sample ≡ abyss_at image policy (first_column + k) v c)
        (λ lt.
        pixel_moved image.format to outside i 0 c known (first lt)
        ∙ sample
        ∙ sym (outside-still image policy (first_column + k) v c clamp loop (λ there. omega (arith, there.column))))
        (λ there. sym (abyss_at-inside image policy (first_column + k) v c (record { column = there; row = here })))
        (λ past.
        pixel_moved image.format to outside i 0 c known (last past)
        ∙ sample
        ∙ sym (outside-still image policy (first_column + k) v c clamp loop (λ there. omega (arith, there.column))))
