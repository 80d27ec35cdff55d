-- The laws of images.
use Rattle.std.proofs.Common.{◌≡◌, ℕ, ◌%◌, ◌<◌, ◌≤◌, true, false, ◌&&◌, List, length, get_or, sym, ap, ◌∙◌, refl, arith, cond, ltb}
use Rattle.std.proofs.lemmas.Bool.Decides.{nat_tests}
use Rattle.std.proofs.lemmas.List.{same_lists}
use Rattle.std.proofs.lemmas.List.FromFn.{get_or-map-range_with_len, length-map-range_with_len, fill_by_all}
use Rattle.plane_rect.specs.Rectangle.{Rectangle, Inside, empty}
use Rattle.plane_rect.proofs.Differences.{no_positions}
use Rattle.pixel_formats.specs.Format.{channels}
use Rattle.pixel_formats.specs.declared.format.Format.{Format}
use Rattle.model_images.specs.Agreement.{AgreeOutside}
use Rattle.model_images.specs.Image.{Image, IsImage, is_inside, at, image_from_fn, sampled, sample_index, sample_count, column_of, row_of}
use Rattle.model_images.proofs.Samples.{inside_where, Inside_from, sample_index_below, position_of_index, position_inside, index_of_position}

has_sample : (image : Image) (u v c : ℕ) → Inside u v image.box → c < channels image.format → (is_inside u v image.box && ltb c (channels image.format)) ≡ true
has_sample image u v c h k =
    let there = inside_where u v image.box h in
    rw there (grind (arith, nat_tests))

pub at_inside : (image : Image) (u v c : ℕ) → Inside u v image.box → c < channels image.format → at image u v c ≡ get_or image.samples (sample_index image.box (channels image.format) u v c) 0
unfolding at
at_inside image u v c h k =
    let known = has_sample image u v c h k in
    rw known refl

pub length-sampled : (r : Rectangle) (n : ℕ) (f : ℕ → ℕ → ℕ → ℕ) → length (sampled r n f) ≡ sample_count r n
length-sampled r n f =
    let F : ℕ → ℕ = λ j. f (column_of r n j) (row_of r n j) (j % n) in
    length-map-range_with_len F 0 (sample_count r n)

pub get_or-sampled : (r : Rectangle) (n : ℕ) (f : ℕ → ℕ → ℕ → ℕ) (i : ℕ) → i < sample_count r n → get_or (sampled r n f) i 0 ≡ f (column_of r n i) (row_of r n i) (i % n)
get_or-sampled r n f i below =
    let F : ℕ → ℕ = λ j. f (column_of r n j) (row_of r n j) (j % n) in
    get_or-map-range_with_len F 0 (sample_count r n) i i 0 below (omega arith)

pub IsImage-image_from_fn : (box : Rectangle) (format : Format) (f : ℕ → ℕ → ℕ → ℕ) → IsImage (image_from_fn box format f)
IsImage-image_from_fn box format f = length-sampled box (channels format) f

pub at-image_from_fn : (box : Rectangle) (format : Format) (f : ℕ → ℕ → ℕ → ℕ) (u v c : ℕ) → Inside u v box → c < channels format → at (image_from_fn box format f) u v c ≡ f u v c
at-image_from_fn box format f u v c h k =
    let n = channels format in
    let p = position_of_index box n u v c h k in
    at_inside (image_from_fn box format f) u v c h k
    ∙ get_or-sampled box n f (sample_index box n u v c) (sample_index_below box n u v c h k)
    ∙ rw (p.0, p.1, p.2) refl

pub at_outside : (image : Image) (u v c : ℕ) → (Inside u v image.box → ⊥) → at image u v c ≡ 0
unfolding at
at_outside image u v c out =
    elim (is_inside u v image.box) as (λ b. is_inside u v image.box ≡ b → cond (b && ltb c (channels image.format)) (get_or image.samples (sample_index image.box (channels image.format) u v c) 0) 0 ≡ 0) [
      | true ↦ λ e. absurd (out (Inside_from u v image.box e))
      | false ↦ λ e. refl
    ] refl

-- a channel that the format lacks is 0
pub at_no_channel : (image : Image) (u v c : ℕ) → channels image.format ≤ c → at image u v c ≡ 0
unfolding at
at_no_channel image u v c out =
    let none : (is_inside u v image.box && ltb c (channels image.format)) ≡ false = grind (arith, nat_tests) in
    rw none refl

pub sampled_equal : (r : Rectangle) (n : ℕ) (f g : ℕ → ℕ → ℕ → ℕ) → ((u v c : ℕ) → Inside u v r → c < n → f u v c ≡ g u v c) → sampled r n f ≡ sampled r n g
sampled_equal r n f g same =
    let N = sample_count r n in
    let F : ℕ → ℕ = λ j. f (column_of r n j) (row_of r n j) (j % n) in
    let G : ℕ → ℕ = λ j. g (column_of r n j) (row_of r n j) (j % n) in
    same_lists _ _ (length-sampled r n f ∙ sym (length-sampled r n g))
    (λ k d h.
    let below : k < N = omega (arith, length-sampled r n f) in
    let p = position_inside r n k below in
    get_or-map-range_with_len F 0 N k k d below (omega arith)
    ∙ same _ _ _ p.0 p.1
    ∙ sym (get_or-map-range_with_len G 0 N k k d below (omega arith)))

pub generated_equal : (box : Rectangle) (format : Format) (f g : ℕ → ℕ → ℕ → ℕ) → ((u v c : ℕ) → Inside u v box → c < channels format → f u v c ≡ g u v c) → image_from_fn box format f ≡ image_from_fn box format g
generated_equal box format f g same =
    ap (λ (samples : List ℕ). record { box = box; format = format; samples = samples }) (sampled_equal box (channels format) f g same)

pub image_from_fn-at : (image : Image) → IsImage image → image_from_fn image.box image.format (at image) ≡ image
image_from_fn-at image whole =
    let n = channels image.format in
    let F : ℕ → ℕ = λ j. at image (column_of image.box n j) (row_of image.box n j) (j % n) in
    let same : image.samples ≡ sampled image.box n (at image) =
    fill_by_all F image.samples (sample_count image.box n) 0 whole
    (λ k below.
    let p = position_inside image.box n k below in
    sym (at_inside image _ _ _ p.0 p.1 ∙ ap (λ j. get_or image.samples j 0) (index_of_position image.box n k))) in
    ap (λ (samples : List ℕ). record { box = image.box; format = image.format; samples = samples }) (sym same)

pub AgreeOutside-refl : (image : Image) (r : Rectangle) → AgreeOutside image image r
AgreeOutside-refl image r = record { box = refl; format = refl; samples = λ u v c _. refl }

pub same_images : (a b : Image) → IsImage a → IsImage b → AgreeOutside a b empty → a ≡ b
same_images a b whole_a whole_b agreed =
    sym (image_from_fn-at a whole_a)
    ∙ generated_equal a.box a.format (at a) (at b) (λ u v c there known. agreed.samples u v c (no_positions u v empty refl))
    ∙ ap (λ (box : Rectangle). image_from_fn box a.format (at b)) agreed.box
    ∙ ap (λ (format : Format). image_from_fn b.box format (at b)) agreed.format
    ∙ image_from_fn-at b whole_b
