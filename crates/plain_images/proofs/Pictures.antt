-- Samples of pictures.
use Rattle.std.proofs.Common.{◌≡◌, ℕ, ◌+◌, ◌≤◌, List, [], ◌∷◌, ◌++◌, inl, inr, map, sym, subst, ap, ◌∙◌, arith}
use Rattle.std.specs.List.{range_with_len}
use Rattle.std.proofs.lemmas.Bool.{cases_lt}
use Rattle.std.proofs.lemmas.Grind.{common_steps}
use Rattle.std.proofs.lemmas.List.FromFn.{map-range_with_len_more}
use Rattle.plane_rect.specs.Rectangle.{InLimits, halved}
use Rattle.pixel_formats.specs.Format.{channels, max_sample}
use Rattle.pixel_formats.specs.declared.format.Format.{Format}
use Rattle.model_images.specs.Image.{Image, at}
use Rattle.model_images.proofs.Laws.{at_inside, at_no_channel, at_outside}
use Rattle.model_images.proofs.Positions.{by_positions}
use Rattle.model_images.proofs.LevelLaws.{InLimits-level}
use Rattle.model_images.specs.Level.{level}
use Rattle.plain_images.specs.Picture.{AreSamples, IsPicture}

-- no sample of a picture is above the largest of its format
pub at-most : (image : Image) → IsPicture image → (u v c : ℕ) → at image u v c ≤ max_sample image.format
at-most image is u v c =
    by_positions _ u v image.box
    (λ there. elim (cases_lt c (channels image.format)) [
      | inl known ↦ subst (λ (n : ℕ). n ≤ max_sample image.format) (sym (at_inside image u v c there known)) (is.range _)
      | inr beyond ↦ subst (λ (n : ℕ). n ≤ max_sample image.format) (sym (at_no_channel image u v c beyond)) (omega arith)
    ])
    (λ out. subst (λ (n : ℕ). n ≤ max_sample image.format) (sym (at_outside image u v c out)) (omega arith))

-- a list of what f gives for numbers in a row, with one more
pub one_more : (f : ℕ → ℕ) (i x : ℕ) (before after : List ℕ) → before ≡ map f (range_with_len 0 i) → x ≡ f i → after ≡ before ++ x ∷ []
    → after ≡ map f (range_with_len 0 (i + 1))
one_more f i x before after is next more =
    more
    ∙ ap (λ (xs : List ℕ). xs ++ x ∷ []) is
    ∙ ap (λ (y : ℕ). map f (range_with_len 0 i) ++ y ∷ []) next
    ∙ sym (map-range_with_len_more f 0 i i (omega arith))

-- samples of a format, with one more
pub AreSamples-more : (format : Format) (x : ℕ) (before after : List ℕ) → AreSamples format before → x ≤ max_sample format → after ≡ before ++ x ∷ []
    → AreSamples format after
AreSamples-more format x before after are next more k =
    rw more (grind (arith, common_steps, are k))

-- an image of half the box may be kept
pub InLimits-half : (image : Image) → IsPicture image → InLimits (halved image.box)
unfolding level
InLimits-half image is = InLimits-level image 1 is.rectangle is.limits
