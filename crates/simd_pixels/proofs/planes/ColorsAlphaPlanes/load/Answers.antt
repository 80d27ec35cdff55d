use Rattle.std.proofs.Common.{ℕ, ◌+◌, ◌*◌, ap, ◌∙◌, arith}
use Rattle.simd_samples.specs.Lanes.{HoldTwo}
use Rattle.pixel_formats.specs.Sample.{sample_at}
use Rattle.simd_pixels.proofs.PlaneLaws.{four_planes}
use Rattle.simd_pixels.proofs.planes.ColorsAlphaPlanes.load.Goals as goal

pub returns : goal.returns
returns g c =
    let L = g.L.Lanes in
    let s = sample_at L.depth c.args.src.now in
    let all = c.load_four-first.ensures in
    let near = c.deinterleave-even in
    let far = c.deinterleave-next_even in
    let far_s = λ (j : ℕ). s (32 + j) in
    let after : HoldTwo (L.lane c.load_four-first.result.2) (L.lane c.load_four-first.result.3) far_s =
    (all.2, λ j lt. all.3 j lt ∙ ap s (omega arith)) in
    let even_s = λ (j : ℕ). s (2 * j) in
    let odd_s = λ (j : ℕ). s (2 * j + 1) in
    let even : HoldTwo (L.lane near.result.0) (L.lane far.result.0) even_s =
    (near.ensures.even s (all.0, all.1), λ j lt. far.ensures.even far_s after j lt ∙ ap s (omega arith)) in
    let odd : HoldTwo (L.lane near.result.1) (L.lane far.result.1) odd_s =
    (near.ensures.odd s (all.0, all.1), λ j lt. far.ensures.odd far_s after j lt ∙ ap s (omega arith)) in
    let red = c.deinterleave-red in
    let green = c.deinterleave-green in
    four_planes s (L.lane red.result.0) (L.lane green.result.0) (L.lane red.result.1) (L.lane green.result.1)
    (λ j lt. red.ensures.even even_s even j lt ∙ ap s (omega arith)) (λ j lt. green.ensures.even odd_s odd j lt ∙ ap s (omega arith))
    (λ j lt. red.ensures.odd even_s even j lt ∙ ap s (omega arith)) (λ j lt. green.ensures.odd odd_s odd j lt ∙ ap s (omega arith))
