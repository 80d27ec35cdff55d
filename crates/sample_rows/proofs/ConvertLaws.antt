-- The parts of pixels as the channels of other formats.
use Rattle.std.proofs.Common.{◌≡◌, ℕ, zero, suc, ◌+◌, ◌-◌, ◌*◌, ◌/◌, ◌%◌, ◌<◌, ◌≤◌, Bool, true, false, ◌&&◌, ◌||◌, cond, eqb, ltb, List, length, refl, sym, ap, ◌∙◌, subst, arith, rules}
use Rattle.pixel_formats.specs.declared.format.Format.{Format}
use Rattle.pixel_formats.specs.declared.format.Format.TheVariants.{Y8}
use Rattle.pixel_formats.proofs.FormatLaws.{by_alpha, by_channels}
use Rattle.pixel_formats.specs.Average.{mean_of_three}
use Rattle.pixel_formats.specs.Convert.{converted_pixel, rechannelled, rescaled}
use Rattle.pixel_formats.specs.Format.{channels, depth, has_alpha, max_sample, max_sample_of, pixel_bytes}
use Rattle.sample_rows.specs.Groups.{Maps, groups}
use Rattle.simd_pixels.specs.Components.{component_for, components_of_gray, components_of_gray_alpha, components_of_colors, components_of_colors_alpha}
use Rattle.pixel_formats.specs.Row.{sample_at, HasPixels, Pixel, pixel_at}
use Rattle.sample_rows.proofs.SampleLaws.{HasPixels-from_samples}

-- what holds of the channels of a pixel
each_channel : (P : ℕ → Type 0) (n : ℕ) → n ≤ 4 → (0 < n → P 0) → (1 < n → P 1) → (2 < n → P 2) → (3 < n → P 3) → (i : ℕ) → i < n → P i
each_channel P n few a b c d zero lt = a lt
each_channel P n few a b c d (suc zero) lt = b lt
each_channel P n few a b c d (suc (suc zero)) lt = c lt
each_channel P n few a b c d (suc (suc (suc zero))) lt = d lt
each_channel P n few a b c d (suc (suc (suc (suc i)))) lt = absurd (omega arith)

-- a channel of a pixel of n channels as one of m channels, where the last of either may be alpha
abbrev as_channel : ℕ → Bool → ℕ → Bool → ℕ → Pixel → ℕ → ℕ
as_channel n alpha m to_alpha most pixel i =
    cond (to_alpha && eqb (i + 1) m) (cond alpha (pixel (n - 1)) most)
    (cond (ltb m 3)
    (cond (ltb n 3) (pixel 0) (mean_of_three (pixel 0) (pixel 1) (pixel 2)))
    (cond (ltb n 3) (pixel 0) (pixel i)))

-- the channels of a pixel of n channels as m channels are among these parts
abbrev AreParts : (ℕ → ℕ) → ℕ → Bool → ℕ → Pixel → ℕ → Bool → Type 0
AreParts parts n alpha most pixel m to_alpha = (i : ℕ) → i < m → parts (component_for m i) ≡ as_channel n alpha m to_alpha most pixel i

-- gray pixels without alpha
pub gray_to : (from to : Format) → channels from ≡ 1 → (pixel : Pixel) (i : ℕ) → i < channels to → components_of_gray (max_sample from) pixel (component_for (channels to) i) ≡ rechannelled from to pixel i
gray_to from to =
    by_alpha (λ n alpha. n ≡ 1 → (pixel : Pixel) → AreParts (components_of_gray (max_sample from) pixel) n alpha (max_sample from) pixel (channels to) (has_alpha to))
    (λ is pixel.
    by_alpha (AreParts (components_of_gray (max_sample from) pixel) 1 false (max_sample from) pixel)
    (each_channel _ 1 (omega arith) (λ lt. search rules) (λ lt. search rules) (λ lt. search rules) (λ lt. search rules))
    (each_channel _ 2 (omega arith) (λ lt. search rules) (λ lt. search rules) (λ lt. search rules) (λ lt. search rules))
    (each_channel _ 3 (omega arith) (λ lt. search rules) (λ lt. search rules) (λ lt. search rules) (λ lt. search rules))
    (each_channel _ 4 (omega arith) (λ lt. search rules) (λ lt. search rules) (λ lt. search rules) (λ lt. search rules)) to)
    (λ is. absurd (omega (arith, is)))
    (λ is. absurd (omega (arith, is)))
    (λ is. absurd (omega (arith, is)))
    from

-- gray pixels with alpha
pub gray_alpha_to : (from to : Format) → channels from ≡ 2 → (pixel : Pixel) (i : ℕ) → i < channels to → components_of_gray_alpha pixel (component_for (channels to) i) ≡ rechannelled from to pixel i
gray_alpha_to from to =
    by_alpha (λ n alpha. n ≡ 2 → (pixel : Pixel) → AreParts (components_of_gray_alpha pixel) n alpha (max_sample from) pixel (channels to) (has_alpha to))
    (λ is. absurd (omega (arith, is)))
    (λ is pixel.
    by_alpha (AreParts (components_of_gray_alpha pixel) 2 true (max_sample from) pixel)
    (each_channel _ 1 (omega arith) (λ lt. search rules) (λ lt. search rules) (λ lt. search rules) (λ lt. search rules))
    (each_channel _ 2 (omega arith) (λ lt. search rules) (λ lt. search rules) (λ lt. search rules) (λ lt. search rules))
    (each_channel _ 3 (omega arith) (λ lt. search rules) (λ lt. search rules) (λ lt. search rules) (λ lt. search rules))
    (each_channel _ 4 (omega arith) (λ lt. search rules) (λ lt. search rules) (λ lt. search rules) (λ lt. search rules)) to)
    (λ is. absurd (omega (arith, is)))
    (λ is. absurd (omega (arith, is)))
    from

-- pixels of three colors without alpha
pub colors_to : (from to : Format) → channels from ≡ 3 → (pixel : Pixel) (i : ℕ) → i < channels to → components_of_colors (max_sample from) pixel (component_for (channels to) i) ≡ rechannelled from to pixel i
colors_to from to =
    by_alpha (λ n alpha. n ≡ 3 → (pixel : Pixel) → AreParts (components_of_colors (max_sample from) pixel) n alpha (max_sample from) pixel (channels to) (has_alpha to))
    (λ is. absurd (omega (arith, is)))
    (λ is. absurd (omega (arith, is)))
    (λ is pixel.
    by_alpha (AreParts (components_of_colors (max_sample from) pixel) 3 false (max_sample from) pixel)
    (each_channel _ 1 (omega arith) (λ lt. search rules) (λ lt. search rules) (λ lt. search rules) (λ lt. search rules))
    (each_channel _ 2 (omega arith) (λ lt. search rules) (λ lt. search rules) (λ lt. search rules) (λ lt. search rules))
    (each_channel _ 3 (omega arith) (λ lt. search rules) (λ lt. search rules) (λ lt. search rules) (λ lt. search rules))
    (each_channel _ 4 (omega arith) (λ lt. search rules) (λ lt. search rules) (λ lt. search rules) (λ lt. search rules)) to)
    (λ is. absurd (omega (arith, is)))
    from

-- pixels of three colors with alpha
pub colors_alpha_to : (from to : Format) → channels from ≡ 4 → (pixel : Pixel) (i : ℕ) → i < channels to → components_of_colors_alpha pixel (component_for (channels to) i) ≡ rechannelled from to pixel i
colors_alpha_to from to =
    by_alpha (λ n alpha. n ≡ 4 → (pixel : Pixel) → AreParts (components_of_colors_alpha pixel) n alpha (max_sample from) pixel (channels to) (has_alpha to))
    (λ is. absurd (omega (arith, is)))
    (λ is. absurd (omega (arith, is)))
    (λ is. absurd (omega (arith, is)))
    (λ is pixel.
    by_alpha (AreParts (components_of_colors_alpha pixel) 4 true (max_sample from) pixel)
    (each_channel _ 1 (omega arith) (λ lt. search rules) (λ lt. search rules) (λ lt. search rules) (λ lt. search rules))
    (each_channel _ 2 (omega arith) (λ lt. search rules) (λ lt. search rules) (λ lt. search rules) (λ lt. search rules))
    (each_channel _ 3 (omega arith) (λ lt. search rules) (λ lt. search rules) (λ lt. search rules) (λ lt. search rules))
    (each_channel _ 4 (omega arith) (λ lt. search rules) (λ lt. search rules) (λ lt. search rules) (λ lt. search rules)) to)
    from

-- the last of so many channels is alpha
abbrev alpha_of : ℕ → Bool
alpha_of n = eqb n 2 || eqb n 4

has_alpha-of : (format : Format) → has_alpha format ≡ alpha_of (channels format)
has_alpha-of = by_alpha (λ n alpha. alpha ≡ alpha_of n) refl refl refl refl

-- where the channels are the same they stay
pub same_channels : (from to : Format) → channels from ≡ channels to → (pixel : Pixel) (i : ℕ) → i < channels to → pixel i ≡ rechannelled from to pixel i
same_channels from to same pixel i lt =
    let n = channels from in
    let most = max_sample from in
    by_channels (λ n. (i : ℕ) → i < n → pixel i ≡ as_channel n (alpha_of n) n (alpha_of n) most pixel i)
    (each_channel _ 1 (omega arith) (λ lt. search rules) (λ lt. search rules) (λ lt. search rules) (λ lt. search rules))
    (each_channel _ 2 (omega arith) (λ lt. search rules) (λ lt. search rules) (λ lt. search rules) (λ lt. search rules))
    (each_channel _ 3 (omega arith) (λ lt. search rules) (λ lt. search rules) (λ lt. search rules) (λ lt. search rules))
    (each_channel _ 4 (omega arith) (λ lt. search rules) (λ lt. search rules) (λ lt. search rules) (λ lt. search rules)) from i (subst (λ m. i < m) (sym same) lt)
    ∙ ap (λ alpha. as_channel n alpha n (alpha_of n) most pixel i) (sym (has_alpha-of from))
    ∙ ap (λ m. as_channel n (has_alpha from) m (alpha_of m) most pixel i) same
    ∙ ap (λ alpha. as_channel n (has_alpha from) (channels to) alpha most pixel i) (sym (has_alpha-of to))

-- a row whose pixels are made of the parts of others
pub converted_by_parts : (from to : Format) (s d n : ℕ) (value : ℕ → Pixel → ℕ → ℕ) (src dst : List ℕ) → depth from ≡ s → depth to ≡ d → channels from ≡ n
    → ((pixel : Pixel) (i : ℕ) → i < channels to → value (max_sample from) pixel i ≡ rechannelled from to pixel i)
    → Maps (groups n s) (groups (channels to) d) (length dst / (channels to * d)) (λ pixel i. rescaled s d (value (max_sample_of s) pixel i)) src dst
    → HasPixels to dst (λ k. converted_pixel from to (pixel_at from src k))
converted_by_parts from to s d n value src dst at_depth to_depth has_channels same maps k channel lt within =
    let AtDepth : ℕ → Type 0 = λ s. Maps (groups n s) (groups (channels to) d) (length dst / (channels to * d)) (λ pixel i. rescaled s d (value (max_sample_of s) pixel i)) src dst in
    let ToDepth : ℕ → Type 0 = λ d. Maps (groups n (depth from)) (groups (channels to) d) (length dst / (channels to * d)) (λ pixel i. rescaled (depth from) d (value (max_sample from) pixel i)) src dst in
    let HasChannels : ℕ → Type 0 = λ n. Maps (groups n (depth from)) (groups (channels to) (depth to)) (length dst / (channels to * depth to)) (λ pixel i. rescaled (depth from) (depth to) (value (max_sample from) pixel i)) src dst in
    subst HasChannels (sym has_channels) (subst ToDepth (sym to_depth) (subst AtDepth (sym at_depth) maps)) k channel lt within
    ∙ ap (rescaled (depth from) (depth to)) (same (pixel_at from src k) channel within)

-- a row whose samples are those of another at another depth, where the channels are the same
pub converted_by_samples : (from to : Format) (s d : ℕ) (src dst : List ℕ) → depth from ≡ s → depth to ≡ d → channels from ≡ channels to → length dst % pixel_bytes to ≡ 0
    → Maps (groups 1 s) (groups 1 d) (length dst / (1 * d)) (λ pixel i. rescaled s d (pixel 0)) src dst
    → HasPixels to dst (λ k. converted_pixel from to (pixel_at from src k))
converted_by_samples from to s d src dst at_depth to_depth same whole maps k channel lt within =
    let AtDepth : ℕ → Type 0 = λ s. Maps (groups 1 s) (groups 1 d) (length dst / (1 * d)) (λ pixel i. rescaled s d (pixel 0)) src dst in
    let ToDepth : ℕ → Type 0 = λ d. Maps (groups 1 (depth from)) (groups 1 d) (length dst / (1 * d)) (λ pixel i. rescaled (depth from) d (pixel 0)) src dst in
    let flat = subst ToDepth (sym to_depth) (subst AtDepth (sym at_depth) maps) in
    let Sample : ℕ → Type 0 = λ j. sample_at (depth to) dst j ≡ rescaled (depth from) (depth to) (sample_at (depth from) src j) in
    let samples : (j : ℕ) → j < length dst / (1 * depth to) → Sample j = λ j before. subst Sample (omega arith) (flat j 0 before (omega arith)) in
    HasPixels-from_samples to dst (λ j. rescaled (depth from) (depth to) (sample_at (depth from) src j)) whole samples k channel lt within
    ∙ ap (rescaled (depth from) (depth to)) (ap (λ n. sample_at (depth from) src (k * n + channel)) (sym same) ∙ same_channels from to same (pixel_at from src k) channel within)

pub four_channels : (f : Format) → (channels f ≡ 1 → ⊥) → (channels f ≡ 2 → ⊥) → (channels f ≡ 3 → ⊥) → channels f ≡ 4
four_channels =
    by_channels (λ n. (n ≡ 1 → ⊥) → (n ≡ 2 → ⊥) → (n ≡ 3 → ⊥) → n ≡ 4)
    (λ one two three. absurd (one refl)) (λ one two three. absurd (two refl)) (λ one two three. absurd (three refl)) (λ one two three. refl)

pub whole_pixels : (f : Format) (l n : ℕ) → l ≡ n * pixel_bytes f → l % pixel_bytes f ≡ 0
whole_pixels Y8 l n is = omega arith
whole_pixels f l n is = omega arith
