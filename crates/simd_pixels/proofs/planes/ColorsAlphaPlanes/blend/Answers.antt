use Rattle.std.proofs.Common.{ℕ, ◌+◌, ◌*◌, ◌/◌, ap, ◌∙◌, sym, arith}
use Rattle.pixel_formats.specs.Blend.{blended}
use Rattle.pixel_formats.specs.Sample.{max_sample_of, sample_at}
use Rattle.simd_pixels.proofs.PlaneLaws.{mixed_first, mixed_lanes, mixed_pixel}
use Rattle.simd_pixels.proofs.planes.ColorsAlphaPlanes.blend.Goals as goal

pub returns : goal.returns
returns g c k i lt within =
    let L = g.L.Lanes in
    let most = max_sample_of L.depth in
    let base = sample_at L.depth c.args.base.now in
    let made = sample_at L.depth c.args.made.now in
    let weights = L.lane c.args.weights in
    let spread = λ (j : ℕ). weights (j / 4) in
    let pairs = c.interleave-low.ensures (λ (j : ℕ). weights (j / 2)) (λ j near. ap weights (omega arith)) (λ j near. ap weights (omega arith)) in
    let near = c.interleave-lowest.ensures spread (λ j lt. pairs.0 j lt ∙ ap weights (omega arith)) (λ j lt. pairs.0 j lt ∙ ap weights (omega arith)) in
    let far = c.interleave-higher.ensures (λ (j : ℕ). spread (32 + j)) (λ j lt. pairs.1 j lt ∙ ap weights (omega arith)) (λ j lt. pairs.1 j lt ∙ ap weights (omega arith)) in
    c.store_four.ensures.here (λ j. blended most (base j) (made j) (spread j)) (
      mixed_first most base made (L.lane c.blend_at-first.result) (L.lane c.interleave-lowest.result.0) spread c.blend_at-first.ensures near.0,
      mixed_lanes most 16 base made (L.lane c.blend_at-second.result) (L.lane c.interleave-lowest.result.1) spread c.blend_at-second.ensures near.1,
      mixed_lanes most 32 base made (L.lane c.blend_at-third.result) (L.lane c.interleave-higher.result.0) spread c.blend_at-third.ensures far.0,
      mixed_lanes most 48 base made (L.lane c.blend_at-fourth.result) (L.lane c.interleave-higher.result.1) spread c.blend_at-fourth.ensures (λ j lt. far.1 j lt ∙ ap spread (omega arith)),
    ) (k * 4 + i) (omega arith)
    ∙ mixed_pixel most 4 k i base made weights (omega arith)
