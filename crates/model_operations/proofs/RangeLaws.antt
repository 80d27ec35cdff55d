-- No operation gives a sample above the largest of its format.
use Rattle.std.proofs.Common.{◌≡◌, ℕ, zero, suc, ◌+◌, ◌-◌, ◌*◌, ◌/◌, ◌<◌, ◌≤◌, inl, inr, Bool, true, false, ◌&&◌, cond, leb, eqb, List, [], ◌∷◌, length, get_or, Option, Some, None, min, refl, sym, subst, ap, ◌∙◌, arith}
use Rattle.std.specs.List.{fold, list_all, sum}
use Rattle.std.proofs.Math.Nat.{mul-le-mul}
use Rattle.std.proofs.lemmas.Bool.Decides.{nat_tests}
use Rattle.std.proofs.lemmas.List.FromFn.{get_or-map-range_with_len, length-map-range_with_len}
use Rattle.std.proofs.lemmas.Nat.{div_below}
use Rattle.std.proofs.lemmas.Bool.{cases_lt}
use Rattle.plane_rect.specs.Rectangle.{Rectangle}
use Rattle.pixel_formats.specs.Average.{mean_of_three}
use Rattle.pixel_formats.specs.Format.{channels, depth, max_sample, max_sample_of, has_alpha}
use Rattle.pixel_formats.specs.Mask.{scaled_by}
use Rattle.pixel_formats.specs.Recolor.{cap, is_alpha, recolored}
use Rattle.pixel_formats.specs.Row.{Pixel}
use Rattle.pixel_formats.specs.declared.format.Format.{Format}
use Rattle.pixel_formats.proofs.FormatLaws.{by_depth, by_max}
use Rattle.model_images.proofs.Laws.{at-image_from_fn, at_no_channel, at_outside}
use Rattle.model_images.proofs.Positions.{by_positions}
use Rattle.model_images.proofs.Tests.{both}
use Rattle.model_images.specs.Image.{Image, at, column_of, image_from_fn, row_of, sample_count}
use Rattle.model_images.proofs.PolicyLaws.{abyss_at-most}
use Rattle.model_images.specs.Abyss.{abyss_at, outside_at}
use Rattle.pixel_formats.specs.declared.abyss.Abyss.{Abyss}
use Rattle.pixel_formats.specs.declared.abyss.Abyss.TheVariants as policies
use Rattle.model_operations.specs.Arguments.{in_range}
use Rattle.model_operations.specs.Boxes.{result_box}
use Rattle.pixel_formats.specs.Convert.{color_of, converted_pixel, gray_of, is_gray, rechannelled, rescaled}
use Rattle.pixel_formats.specs.Format.{same_format}
use Rattle.model_operations.specs.Formats.{are_samples, format_if, format_of, format_with, is_mask_of, is_sample}
use Rattle.model_operations.specs.Inputs.{boxes_of, formats_of, input_image, input_count, input_format}
use Rattle.model_operations.specs.Results.{IsInRange, result_format, result_of}
use Rattle.model_operations.specs.Values.{checker_pixel, flipped_pixel, value_at, value_with}
use Rattle.model_operations.specs.Windows.{max_of_all, min_of_all, mean_of, read_before, window, window_side, window_square}
use Rattle.model_operations.specs.declared.operation.IntOp.{IntOp}
use Rattle.model_operations.specs.declared.operation.IntOp.TheVariants.{Color, Checker, Convert, Invert, Threshold, Gain, Translate, Crop, Flip, BoxMean, Dilate, Erode, Add, Over, Mask}
use Rattle.model_operations.specs.Lawful.Inputs.{input_format-image}
use Rattle.model_operations.proofs.WindowLaws.{max_sample-among, minimum-among, length-window}

-- ---- formats

format_if-holds : (b : Bool) (f g : Format) → format_if b f ≡ Some g → (b ≡ true) × (f ≡ g)
format_if-holds true f g e = (refl, cc)
format_if-holds false f g e = absurd (cc e)

-- ---- pixels

choice-most : (b : Bool) (x y most : ℕ) → x ≤ most → y ≤ most → cond b x y ≤ most
choice-most true x y most h k = h
choice-most false x y most h k = k

cap-most : (f : Format) (p : Pixel) (most : ℕ) → max_sample f ≤ most → ((c : ℕ) → p c ≤ most) → cap f p ≤ most
cap-most f p most room below = choice-most (has_alpha f) (p (channels f - 1)) (max_sample f) most (below _) room

recolored-most : (f : Format) (change : ℕ → ℕ → ℕ) (p : Pixel) (c : ℕ) → ((cap color : ℕ) → change cap color ≤ cap)
    → ((c : ℕ) → p c ≤ max_sample f) → recolored f change p c ≤ max_sample f
recolored-most f change p c capped below =
    let own = cap-most f p (max_sample f) (omega arith) below in
    choice-most (is_alpha f c) (p c) (change (cap f p) (p c)) (max_sample f) (below c) (omega (arith, own, capped (cap f p) (p c)))

scaled_by-minimum : (s w : ℕ) → s ≤ 255 → w ≤ 255 → scaled_by 255 s w ≤ 255
scaled_by-minimum s w h k = let product : s * w ≤ 255 * 255 = mul-le-mul h k in omega (arith, product)

scaled_by-most : (s w : ℕ) → s ≤ 65535 → w ≤ 65535 → scaled_by 65535 s w ≤ 65535
scaled_by-most s w h k = let product : s * w ≤ 65535 * 65535 = mul-le-mul h k in omega (arith, product)

scaled_by-largest : (s w : ℕ) → s ≤ 4294967295 → w ≤ 4294967295 → scaled_by 4294967295 s w ≤ 4294967295
scaled_by-largest s w h k = let product : s * w ≤ 4294967295 * 4294967295 = mul-le-mul h k in omega (arith, product)

scaled_by-below : (f : Format) (s w : ℕ) → s ≤ max_sample f → w ≤ max_sample f → scaled_by (max_sample f) s w ≤ max_sample f
scaled_by-below f s w =
    by_max (λ (m : ℕ). s ≤ m → w ≤ m → scaled_by m s w ≤ m) (scaled_by-minimum s w) (scaled_by-most s w) (scaled_by-largest s w) f

-- ---- conversion

rescaled-most : (from to : Format) (s : ℕ) → s ≤ max_sample from → rescaled (depth from) (depth to) s ≤ max_sample to
rescaled-most from to s =
    by_depth (λ d. s ≤ max_sample_of d → rescaled d (depth to) s ≤ max_sample to)
    (by_depth (λ e. s ≤ 255 → rescaled 1 e s ≤ max_sample_of e) (λ most. omega (arith, most)) (λ most. omega (arith, most)) (λ most. omega (arith, most)) to)
    (by_depth (λ e. s ≤ 65535 → rescaled 2 e s ≤ max_sample_of e) (λ most. omega (arith, most)) (λ most. omega (arith, most)) (λ most. omega (arith, most)) to)
    (by_depth (λ e. s ≤ 4294967295 → rescaled 4 e s ≤ max_sample_of e) (λ most. omega (arith, most)) (λ most. omega (arith, most)) (λ most. omega (arith, most)) to)
    from

gray-most : (from : Format) (p : Pixel) (most : ℕ) → ((c : ℕ) → p c ≤ most) → gray_of from p ≤ most
gray-most from p most below =
    choice-most (is_gray from) (p 0) (mean_of_three (p 0) (p 1) (p 2)) most (below 0) (omega (arith, below 0, below 1, below 2))

color-most : (from to : Format) (p : Pixel) (c most : ℕ) → ((c : ℕ) → p c ≤ most) → cond (is_gray to) (gray_of from p) (color_of from p c) ≤ most
color-most from to p c most below =
    choice-most (is_gray to) (gray_of from p) (color_of from p c) most (gray-most from p most below)
    (choice-most (is_gray from) (p 0) (p c) most (below 0) (below c))

converted-most : (from to : Format) (p : Pixel) (c : ℕ) → ((c : ℕ) → p c ≤ max_sample from) → converted_pixel from to p c ≤ max_sample to
converted-most from to p c below =
    rescaled-most from to (rechannelled from to p c)
    (choice-most (is_alpha to c) (cap from p) (cond (is_gray to) (gray_of from p) (color_of from p c)) (max_sample from)
    (cap-most from p (max_sample from) (omega arith) below)
    (color-most from to p c (max_sample from) below))

-- ---- samples that are given

listed-most : (f : Format) (samples : List ℕ) (c : ℕ) → list_all (is_sample f) samples ≡ true → get_or samples c 0 ≤ max_sample f
listed-most f [] c h = omega arith
listed-most f (x ∷ xs) zero h = grind (arith, nat_tests)
listed-most f (x ∷ xs) (suc c) h = let rest : list_all (is_sample f) xs ≡ true = grind (arith, nat_tests) in listed-most f xs c rest

-- ---- windows

module _ (radius : ℕ) (image : Image) (policy : Abyss) (below : IsInRange image) where
  outside-most : (policy : Abyss) (u v c : ℕ) → outside_at image policy u v c ≤ max_sample image.format
  outside-most policies.None u v c = omega arith
  outside-most policies.Clamp u v c = below _ _ _
  outside-most policies.Loop u v c = below _ _ _
  outside-most policies.Black u v c = choice-most (is_alpha image.format c) (max_sample image.format) 0 (max_sample image.format) (omega arith) (omega arith)
  outside-most policies.White u v c = omega arith

  read-most : (u v c : ℕ) → read_before radius image policy u v c ≤ max_sample image.format
  read-most u v c =
      choice-most (leb radius u && leb radius v) (abyss_at image policy (u - radius) (v - radius) c) (outside_at image policy (u - radius) (v - radius) c) (max_sample image.format)
      (abyss_at-most image policy c (max_sample image.format) (omega arith) (λ s t. below s t c) (u - radius) (v - radius))
      (outside-most policy (u - radius) (v - radius) c)

  pub window-most : (u v c k : ℕ) → k < length (window radius image policy u v c) → get_or (window radius image policy u v c) k 0 ≤ max_sample image.format
  window-most u v c k known =
      let r = window_square radius u v in
      let F : ℕ → ℕ = λ j. read_before radius image policy (column_of r 1 j) (row_of r 1 j) c in
      let inside : k < sample_count r 1 = omega (arith, known, length-map-range_with_len F 0 (sample_count r 1)) in
      let own = get_or-map-range_with_len F 0 (sample_count r 1) k k 0 inside (omega arith) in
      subst (λ (n : ℕ). n ≤ max_sample image.format) (sym own) (read-most (column_of r 1 k) (row_of r 1 k) c)

sum-most : (a most : ℕ) (xs : List ℕ) → ((k : ℕ) → k < length xs → get_or xs k 0 ≤ most) → fold (λ a x. a + x) a xs ≤ a + length xs * most
sum-most a most [] each = omega arith
sum-most a most (x ∷ xs) each =
    let rest = sum-most (a + x) most xs (λ k h. each (suc k) (omega (arith, h))) in
    omega (arith, rest, each 0 (omega arith))

mean-most : (n most : ℕ) (xs : List ℕ) → 0 < n → length xs ≡ n → ((k : ℕ) → k < length xs → get_or xs k 0 ≤ most) → mean_of n xs ≤ most
mean-most n most xs some long each =
    let own : sum xs ≤ length xs * most = omega (arith, sum-most 0 most xs each) in
    let whole : sum xs ≤ n * most = subst (λ (m : ℕ). sum xs ≤ m * most) long own in
    let below : sum xs + n / 2 < suc most * n = omega (arith, whole) in
    omega (arith, div_below (sum xs + n / 2) n (suc most) some below)

window-some : (radius : ℕ) → 0 < window_side radius * window_side radius
window-some radius = omega arith

-- ---- operations

same-max_sample : (f g : Format) → eqb (depth f) (depth g) ≡ true → max_sample f ≡ max_sample g
same-max_sample f g h = let same : depth f ≡ depth g = grind (arith, nat_tests) in ap max_sample_of same

module _ (a b : Image) (u v c : ℕ) where
  -- what the first input's format is, and what stays below its largest sample
  in-format : (f g : Format) (n : ℕ) → f ≡ g → n ≤ max_sample f → n ≤ max_sample g
  in-format f g n is below = subst (λ (x : Format). n ≤ max_sample x) is below

  window-range : (radius : ℕ) (policy : Abyss) → IsInRange a →
      (mean_of (window_side radius * window_side radius) (window radius a policy u v c) ≤ max_sample a.format)
      × (max_of_all (window radius a policy u v c) ≤ max_sample a.format)
      × (min_of_all (window radius a policy u v c) ≤ max_sample a.format)
  window-range radius policy below =
      let xs = window radius a policy u v c in
      let long : length xs ≡ window_side radius * window_side radius = length-window radius a policy u v c in
      let some = window-some radius in
      let each = window-most radius a policy below u v c in
      let most = max_sample-among xs (omega (arith, long, some)) in
      let minimum = minimum-among xs (omega (arith, long, some)) in (
        mean-most (window_side radius * window_side radius) (max_sample a.format) xs some long each,
        subst (λ (n : ℕ). n ≤ max_sample a.format) most.2 (each most.0 most.1),
        subst (λ (n : ℕ). n ≤ max_sample a.format) minimum.2 (each minimum.0 minimum.1),
      )

  flip-range : (sideways : Bool) → IsInRange a → flipped_pixel sideways a u v c ≤ max_sample a.format
  flip-range true below = below _ _ _
  flip-range false below = below _ _ _

  pub value-range : (op : IntOp) (format : Format) → format_with op a.format b.format ≡ Some format
      → (0 < input_count op → IsInRange a) → (1 < input_count op → IsInRange b) → value_with op a b u v c ≤ max_sample format
  value-range (Color f rect samples) format stated first second =
      let is = format_if-holds (are_samples f samples) f format stated in
      in-format f format (get_or samples c 0) is.1 (listed-most f samples c (both _ _ is.0).1)
  value-range (Checker f rect size v1 v2) format stated first second =
      let is = format_if-holds (is_sample f v1 && is_sample f v2) f format stated in
      let fit = both (is_sample f v1) (is_sample f v2) is.0 in
      let one : v1 ≤ max_sample f = grind (arith, nat_tests, fit.0) in
      let other : v2 ≤ max_sample f = grind (arith, nat_tests, fit.1) in
      in-format f format (checker_pixel f size v1 v2 u v c) is.1
      (choice-most (is_alpha f c) (max_sample f) _ (max_sample f) (omega arith) (choice-most _ v1 v2 (max_sample f) one other))
  value-range (Convert f) format stated first second =
      let is : f ≡ format = cc in
      in-format f format _ is (converted-most a.format f (at a u v) c (first (omega arith) u v))
  value-range Invert format stated first second =
      let is : a.format ≡ format = cc in
      in-format a.format format _ is (recolored-most a.format (λ cap color. cap - color) (at a u v) c (λ cap color. omega arith) (first (omega arith) u v))
  value-range (Threshold level) format stated first second =
      let is = format_if-holds (is_sample a.format level) a.format format stated in
      in-format a.format format _ is.1
      (recolored-most a.format (λ cap color. cond (leb level color) cap 0) (at a u v) c
      (λ cap color. choice-most (leb level color) cap 0 cap (omega arith) (omega arith)) (first (omega arith) u v))
  value-range (Gain num den) format stated first second =
      let is : a.format ≡ format = cc in
      in-format a.format format _ is
      (recolored-most a.format (λ cap color. min cap ((color * num + den / 2) / den)) (at a u v) c (λ cap color. omega arith) (first (omega arith) u v))
  value-range (Translate dx dy) format stated first second = let is : a.format ≡ format = cc in in-format a.format format _ is (first (omega arith) _ _ _)
  value-range (Crop rect) format stated first second = let is : a.format ≡ format = cc in in-format a.format format _ is (first (omega arith) _ _ _)
  value-range (Flip sideways) format stated first second =
      let is : a.format ≡ format = cc in
      in-format a.format format _ is (flip-range sideways (first (omega arith)))
  value-range (BoxMean radius abyss) format stated first second =
      let is : a.format ≡ format = cc in
      in-format a.format format _ is (window-range radius abyss (first (omega arith))).0
  value-range (Dilate radius abyss) format stated first second =
      let is : a.format ≡ format = cc in
      in-format a.format format _ is (window-range radius abyss (first (omega arith))).1
  value-range (Erode radius abyss) format stated first second =
      let is : a.format ≡ format = cc in
      in-format a.format format _ is (window-range radius abyss (first (omega arith))).2
  value-range Add format stated first second =
      let is = format_if-holds (same_format a.format b.format) a.format format stated in
      in-format a.format format _ is.1 (omega arith)
  value-range Over format stated first second =
      let is = format_if-holds (same_format a.format b.format && has_alpha a.format) a.format format stated in
      in-format a.format format _ is.1 (omega arith)
  value-range Mask format stated first second =
      let is = format_if-holds (is_mask_of b.format a.format) a.format format stated in
      let one : 0 < 2 = omega arith in
      let two : 1 < 2 = omega arith in
      let same = same-max_sample b.format a.format (both _ _ is.0).1 in
      let weight : at b u v 0 ≤ max_sample a.format = subst (λ (n : ℕ). at b u v 0 ≤ n) same (second two u v 0) in
      in-format a.format format _ is.1 (scaled_by-below a.format (at a u v c) (at b u v 0) (first one u v c) weight)

stated-with : (b : Bool) (stated : Option Format) (format : Format) → cond b stated None ≡ Some format → stated ≡ Some format
stated-with true stated format e = e
stated-with false stated format e = absurd (cc e)

-- what is generated of what stays below a number does too
image_from_fn-most : (box : Rectangle) (format : Format) (f : ℕ → ℕ → ℕ → ℕ) (most u v c : ℕ) → f u v c ≤ most → at (image_from_fn box format f) u v c ≤ most
image_from_fn-most box format f most u v c below =
    by_positions _ u v box
    (λ inside. elim (cases_lt c (channels format)) [
      | inl known ↦ subst (λ (n : ℕ). n ≤ most) (sym (at-image_from_fn box format f u v c inside known)) below
      | inr out ↦ subst (λ (n : ℕ). n ≤ most) (sym (at_no_channel (image_from_fn box format f) u v c out)) (omega arith)
    ])
    (λ out. subst (λ (n : ℕ). n ≤ most) (sym (at_outside (image_from_fn box format f) u v c out)) (omega arith))

pub result-range : (op : IntOp) (images : List Image) (format : Format) → format_of op (formats_of images) ≡ Some format
    → ((i : ℕ) → i < input_count op → IsInRange (input_image images i))
    → (u v c : ℕ) → at (result_of op images) u v c ≤ max_sample format
result-range op images format stated below u v c =
    let with : format_with op (input_format (formats_of images) 0) (input_format (formats_of images) 1) ≡ Some format =
    stated-with (eqb (length (formats_of images)) (input_count op) && in_range op) _ format stated in
    let own : format_with op (input_image images 0).format (input_image images 1).format ≡ Some format =
    ap (λ (f : Format). format_with op f (input_image images 1).format) (sym (input_format-image images 0))
    ∙ ap (λ (f : Format). format_with op (input_format (formats_of images) 0) f) (sym (input_format-image images 1))
    ∙ with in
    image_from_fn-most (result_box op (boxes_of images)) (result_format op (formats_of images)) (value_at op images) (max_sample format) u v c
    (value-range (input_image images 0) (input_image images 1) u v c op format own (below 0) (below 1))
