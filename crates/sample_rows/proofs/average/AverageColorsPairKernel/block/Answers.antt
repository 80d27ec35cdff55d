use Rattle.std.proofs.Common.{◌≡◌, ℕ, zero, suc, ◌+◌, ◌*◌, ◌<◌, sym, ap, ◌∙◌, arith}
use Rattle.pixel_formats.specs.Average.{mean_of_four}
use Rattle.simd_pixels.specs.Planes.{of_three}
use Rattle.pixel_formats.specs.Row.{sample_at}
use Rattle.simd_pixels.proofs.PlaneLaws.{woven, woven-at}
use Rattle.sample_rows.proofs.average.AverageColorsPairKernel.block.Goals as goal

-- what a mean of one plane is of the samples of whole pixels
of_plane : (s t lanes : ℕ → ℕ) (k i a b : ℕ) → lanes (k * 1 + 0) ≡ mean_of_four (s a) (s b) (t a) (t b) → a ≡ k * 6 + i → b ≡ k * 6 + (3 + i)
    → lanes k ≡ mean_of_four (s (k * 6 + i)) (s (k * 6 + (3 + i))) (t (k * 6 + i)) (t (k * 6 + (3 + i)))
of_plane s t lanes k i a b mean first second =
    let same : k * 1 + 0 ≡ k = omega arith in
    sym (ap lanes same) ∙ mean ∙ (λ p. mean_of_four (s (first p)) (s (second p)) (t (first p)) (t (second p)))

-- the means of three planes by the channel
of_planes : (s t red green blue : ℕ → ℕ) (k : ℕ)
    → red (k * 1 + 0) ≡ mean_of_four (s (3 * (k * 2 + 0))) (s (3 * (k * 2 + (1 + 0)))) (t (3 * (k * 2 + 0))) (t (3 * (k * 2 + (1 + 0))))
    → green (k * 1 + 0) ≡ mean_of_four (s (3 * (k * 2 + 0) + 1)) (s (3 * (k * 2 + (1 + 0)) + 1)) (t (3 * (k * 2 + 0) + 1)) (t (3 * (k * 2 + (1 + 0)) + 1))
    → blue (k * 1 + 0) ≡ mean_of_four (s (3 * (k * 2 + 0) + 2)) (s (3 * (k * 2 + (1 + 0)) + 2)) (t (3 * (k * 2 + 0) + 2)) (t (3 * (k * 2 + (1 + 0)) + 2))
    → (i : ℕ) → i < 3 → of_three red green blue i k ≡ mean_of_four (s (k * 6 + i)) (s (k * 6 + (3 + i))) (t (k * 6 + i)) (t (k * 6 + (3 + i)))
of_planes s t red green blue k p q r zero within = of_plane s t red k 0 _ _ p (omega arith) (omega arith)
of_planes s t red green blue k p q r (suc zero) within = of_plane s t green k 1 _ _ q (omega arith) (omega arith)
of_planes s t red green blue k p q r (suc (suc zero)) within = of_plane s t blue k 2 _ _ r (omega arith) (omega arith)
of_planes s t red green blue k p q r (suc (suc (suc i))) within = absurd (omega arith)

pub returns : goal.returns
returns g c k i lt within =
    let L = g.L.Lanes in
    let s = sample_at L.depth c.args.a.now in
    let t = sample_at L.depth c.args.b.now in
    let up = c.load_colors-up.ensures in
    let down = c.load_colors-down.ensures in
    let red = L.lane c.mean_of_pixels-red.result in
    let green = L.lane c.mean_of_pixels-green.result in
    let blue = L.lane c.mean_of_pixels-blue.result in
    let planes = of_three red green blue in
    let samples = woven 3 planes in
    c.store_three.ensures.here samples
    (c.join_thirds-first.ensures samples (λ j near. sym (woven-at 3 planes (3 * j) j 0 (omega arith) (omega arith))) (λ j near. sym (woven-at 3 planes (3 * j + 1) j 1 (omega arith) (omega arith)))
    (λ j near. sym (woven-at 3 planes (3 * j + 2) j 2 (omega arith) (omega arith))))
    (k * 3 + i) (omega arith)
    ∙ woven-at 3 planes (k * 3 + i) k i (omega arith) (omega arith)
    ∙ of_planes s t red green blue k
    (c.mean_of_pixels-red.ensures (λ (j : ℕ). s (3 * j)) (λ (j : ℕ). t (3 * j)) up.red down.red k 0 lt (omega arith))
    (c.mean_of_pixels-green.ensures (λ (j : ℕ). s (3 * j + 1)) (λ (j : ℕ). t (3 * j + 1)) up.green down.green k 0 lt (omega arith))
    (c.mean_of_pixels-blue.ensures (λ (j : ℕ). s (3 * j + 2)) (λ (j : ℕ). t (3 * j + 2)) up.blue down.blue k 0 lt (omega arith)) i within
