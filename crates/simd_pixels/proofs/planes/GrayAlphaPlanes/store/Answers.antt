use Rattle.std.proofs.Common.{◌+◌, ◌*◌, sym, ◌∙◌, arith}
use Rattle.simd_pixels.specs.Planes.{of_two}
use Rattle.simd_pixels.proofs.PlaneLaws.{woven, woven-at}
use Rattle.simd_pixels.proofs.planes.GrayAlphaPlanes.store.Goals as goal

pub returns-clause-here : goal.returns-clause-here
returns-clause-here g c k i lt within =
    let L = g.L.Lanes in
    let planes = of_two (L.lane c.args.self.gray) (L.lane c.args.self.alpha) in
    let s = woven 2 planes in
    c.store_two.ensures.here s
    (c.interleave-first.ensures s (λ j near. sym (woven-at 2 planes (2 * j) j 0 (omega arith) (omega arith))) (λ j near. sym (woven-at 2 planes (2 * j + 1) j 1 (omega arith) (omega arith))))
    (k * 2 + i) (omega arith)
    ∙ woven-at 2 planes (k * 2 + i) k i (omega arith) (omega arith)
