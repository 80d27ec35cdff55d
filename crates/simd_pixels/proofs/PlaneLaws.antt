-- Planes, and the samples of the pixels one after the other.
use Rattle.std.proofs.Common.{◌≡◌, ℕ, zero, suc, ◌+◌, ◌*◌, ◌/◌, ◌%◌, ◌<◌, ◌≤◌, ap, ◌∙◌, arith}
use Rattle.pixel_formats.specs.Blend.{blended}
use Rattle.simd_samples.specs.Lanes.{Hold}
use Rattle.simd_pixels.specs.Components.{component_for}
use Rattle.simd_pixels.specs.Planes.{of_two, of_three, of_four}

-- planes that were taken apart
pub two_planes : (s a b : ℕ → ℕ) → Hold a (λ j. s (2 * j)) → Hold b (λ j. s (2 * j + 1)) → (k i : ℕ) → k < 16 → i < 2 → of_two a b i k ≡ s (k * 2 + i)
two_planes s a b p q k zero lt within = p k lt ∙ ap s (omega arith)
two_planes s a b p q k (suc zero) lt within = q k lt ∙ ap s (omega arith)
two_planes s a b p q k (suc (suc i)) lt within = absurd (omega arith)

pub three_planes : (s a b c : ℕ → ℕ) → Hold a (λ j. s (3 * j)) → Hold b (λ j. s (3 * j + 1)) → Hold c (λ j. s (3 * j + 2)) → (k i : ℕ) → k < 16 → i < 3 → of_three a b c i k ≡ s (k * 3 + i)
three_planes s a b c p q r k zero lt within = p k lt ∙ ap s (omega arith)
three_planes s a b c p q r k (suc zero) lt within = q k lt ∙ ap s (omega arith)
three_planes s a b c p q r k (suc (suc zero)) lt within = r k lt ∙ ap s (omega arith)
three_planes s a b c p q r k (suc (suc (suc i))) lt within = absurd (omega arith)

pub four_planes : (s a b c d : ℕ → ℕ) → Hold a (λ j. s (4 * j)) → Hold b (λ j. s (4 * j + 1)) → Hold c (λ j. s (4 * j + 2)) → Hold d (λ j. s (4 * j + 3)) → (k i : ℕ) → k < 16 → i < 4 → of_four a b c d i k ≡ s (k * 4 + i)
four_planes s a b c d p q r t k zero lt within = p k lt ∙ ap s (omega arith)
four_planes s a b c d p q r t k (suc zero) lt within = q k lt ∙ ap s (omega arith)
four_planes s a b c d p q r t k (suc (suc zero)) lt within = r k lt ∙ ap s (omega arith)
four_planes s a b c d p q r t k (suc (suc (suc zero))) lt within = t k lt ∙ ap s (omega arith)
four_planes s a b c d p q r t k (suc (suc (suc (suc i)))) lt within = absurd (omega arith)

-- the samples of n planes, pixel by pixel
abbrev pub woven : ℕ → (ℕ → ℕ → ℕ) → ℕ → ℕ
woven n planes j = planes (j % n) (j / n)

-- a sample by its place
pub woven-at : (n : ℕ) (planes : ℕ → ℕ → ℕ) (j k i : ℕ) → j % n ≡ i → j / n ≡ k → woven n planes j ≡ planes i k
woven-at n planes j k i channel pixel = ap (λ c. planes c (j / n)) channel ∙ ap (planes i) pixel

-- planes that were made of parts, where part n of a pixel becomes f n
pub two_parts : (f a b : ℕ → ℕ) (k : ℕ) → a k ≡ f 0 → b k ≡ f 4 → (i : ℕ) → i < 2 → of_two a b i k ≡ f (4 * i)
two_parts f a b k p q zero within = p ∙ ap f (omega arith)
two_parts f a b k p q (suc zero) within = q ∙ ap f (omega arith)
two_parts f a b k p q (suc (suc i)) within = absurd (omega arith)

pub three_parts : (f a b c : ℕ → ℕ) (k : ℕ) → a k ≡ f 1 → b k ≡ f 2 → c k ≡ f 3 → (i : ℕ) → i < 3 → of_three a b c i k ≡ f (i + 1)
three_parts f a b c k p q r zero within = p ∙ ap f (omega arith)
three_parts f a b c k p q r (suc zero) within = q ∙ ap f (omega arith)
three_parts f a b c k p q r (suc (suc zero)) within = r ∙ ap f (omega arith)
three_parts f a b c k p q r (suc (suc (suc i))) within = absurd (omega arith)

pub four_parts : (f a b c d : ℕ → ℕ) (k : ℕ) → a k ≡ f 1 → b k ≡ f 2 → c k ≡ f 3 → d k ≡ f 4 → (i : ℕ) → i < 4 → of_four a b c d i k ≡ f (i + 1)
four_parts f a b c d k p q r t zero within = p ∙ ap f (omega arith)
four_parts f a b c d k p q r t (suc zero) within = q ∙ ap f (omega arith)
four_parts f a b c d k p q r t (suc (suc zero)) within = r ∙ ap f (omega arith)
four_parts f a b c d k p q r t (suc (suc (suc zero))) within = t ∙ ap f (omega arith)
four_parts f a b c d k p q r t (suc (suc (suc (suc i)))) within = absurd (omega arith)

-- a pixel has five parts
pub component_for-le : (n i : ℕ) → n ≤ 4 → i < n → component_for n i ≤ 4
component_for-le zero i few within = absurd (omega arith)
component_for-le (suc zero) i few within = omega arith
component_for-le (suc (suc zero)) i few within = omega arith
component_for-le (suc (suc (suc n))) i few within = omega arith

-- ---- pixels that are mixed by a weight each

-- sixteen samples, from a sample on, mixed by weights that were spread over the channels of the pixels
pub mixed_lanes : (most from : ℕ) (base made lanes weights spread : ℕ → ℕ) → Hold lanes (λ j. blended most (base (from + j)) (made (from + j)) (weights j)) → Hold weights (λ j. spread (from + j))
    → Hold lanes (λ j. blended most (base (from + j)) (made (from + j)) (spread (from + j)))
mixed_lanes most from base made lanes weights spread mixed same j lt = mixed j lt ∙ ap (blended most (base (from + j)) (made (from + j))) (same j lt)

-- the first sixteen
pub mixed_first : (most : ℕ) (base made lanes weights spread : ℕ → ℕ) → Hold lanes (λ j. blended most (base (0 + j)) (made (0 + j)) (weights j)) → Hold weights spread
    → Hold lanes (λ j. blended most (base j) (made j) (spread j))
mixed_first most base made lanes weights spread mixed same j lt =
    let at : 0 + j ≡ j = omega arith in
    mixed j lt ∙ (λ t. blended most (base (at t)) (made (at t)) (same j lt t))

-- the weight of a pixel of n channels is spread over its samples
pub mixed_pixel : (most n k i : ℕ) (base made weights : ℕ → ℕ) → (k * n + i) / n ≡ k → blended most (base (k * n + i)) (made (k * n + i)) (weights ((k * n + i) / n)) ≡ blended most (base (k * n + i)) (made (k * n + i)) (weights k)
mixed_pixel most n k i base made weights at = ap (λ l. blended most (base (k * n + i)) (made (k * n + i)) (weights l)) at
