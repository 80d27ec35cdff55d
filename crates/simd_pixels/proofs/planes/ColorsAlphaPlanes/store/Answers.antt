use Rattle.std.proofs.Common.{ℕ, ◌+◌, ◌*◌, sym, ap, ◌∙◌, arith}
use Rattle.simd_pixels.specs.Planes.{of_four}
use Rattle.simd_pixels.proofs.PlaneLaws.{woven, woven-at}
use Rattle.simd_pixels.proofs.planes.ColorsAlphaPlanes.store.Goals as goal

pub returns-clause-here : goal.returns-clause-here
returns-clause-here g c k i lt within =
    let L = g.L.Lanes in
    let planes = of_four (L.lane c.args.self.red) (L.lane c.args.self.green) (L.lane c.args.self.blue) (L.lane c.args.self.alpha) in
    let s = woven 4 planes in
    let even_s = λ (j : ℕ). s (2 * j) in
    let odd_s = λ (j : ℕ). s (2 * j + 1) in
    let far_s = λ (j : ℕ). s (32 + j) in
    let even = c.interleave-even.ensures even_s (λ j near. sym (woven-at 4 planes (2 * (2 * j)) j 0 (omega arith) (omega arith))) (λ j near. sym (woven-at 4 planes (2 * (2 * j + 1)) j 2 (omega arith) (omega arith))) in
    let odd = c.interleave-odd.ensures odd_s (λ j near. sym (woven-at 4 planes (2 * (2 * j) + 1) j 1 (omega arith) (omega arith))) (λ j near. sym (woven-at 4 planes (2 * (2 * j + 1) + 1) j 3 (omega arith) (omega arith))) in
    let near = c.interleave-first.ensures s even.0 odd.0 in
    let far = c.interleave-third.ensures far_s (λ j lt. even.1 j lt ∙ ap s (omega arith)) (λ j lt. odd.1 j lt ∙ ap s (omega arith)) in
    c.store_four.ensures.here s (near.0, near.1, far.0, λ j lt. far.1 j lt ∙ ap s (omega arith)) (k * 4 + i) (omega arith)
    ∙ woven-at 4 planes (k * 4 + i) k i (omega arith) (omega arith)
