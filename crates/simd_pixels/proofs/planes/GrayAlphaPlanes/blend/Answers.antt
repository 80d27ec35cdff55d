use Rattle.std.proofs.Common.{ℕ, ◌+◌, ◌*◌, ◌/◌, ap, ◌∙◌, sym, arith}
use Rattle.pixel_formats.specs.Blend.{blended}
use Rattle.pixel_formats.specs.Sample.{max_sample_of, sample_at}
use Rattle.simd_pixels.proofs.PlaneLaws.{mixed_first, mixed_lanes, mixed_pixel}
use Rattle.simd_pixels.proofs.planes.GrayAlphaPlanes.blend.Goals as goal

pub returns : goal.returns
returns g c k i lt within =
    let L = g.L.Lanes in
    let most = max_sample_of L.depth in
    let base = sample_at L.depth c.args.base.now in
    let made = sample_at L.depth c.args.made.now in
    let weights = L.lane c.args.weights in
    let spread = λ (j : ℕ). weights (j / 2) in
    let all = c.interleave-low.ensures spread (λ j near. ap weights (omega arith)) (λ j near. ap weights (omega arith)) in
    c.store_two.ensures.here (λ j. blended most (base j) (made j) (spread j)) (
      mixed_first most base made (L.lane c.blend_at-first.result) (L.lane c.interleave-low.result.0) spread c.blend_at-first.ensures all.0,
      mixed_lanes most 16 base made (L.lane c.blend_at-second.result) (L.lane c.interleave-low.result.1) spread c.blend_at-second.ensures all.1,
    ) (k * 2 + i) (omega arith)
    ∙ mixed_pixel most 2 k i base made weights (omega arith)
