use Rattle.std.proofs.Common.{◌+◌, ◌*◌, sym, ◌∙◌, arith}
use Rattle.simd_pixels.specs.Planes.{of_three}
use Rattle.simd_pixels.proofs.PlaneLaws.{woven, woven-at}
use Rattle.simd_pixels.proofs.planes.ColorsPlanes.store.Goals as goal

pub returns-clause-here : goal.returns-clause-here
returns-clause-here g c k i lt within =
    let L = g.L.Lanes in
    let planes = of_three (L.lane c.args.self.red) (L.lane c.args.self.green) (L.lane c.args.self.blue) in
    let s = woven 3 planes in
    c.store_three.ensures.here s
    (c.join_thirds-first.ensures s (λ j near. sym (woven-at 3 planes (3 * j) j 0 (omega arith) (omega arith))) (λ j near. sym (woven-at 3 planes (3 * j + 1) j 1 (omega arith) (omega arith)))
    (λ j near. sym (woven-at 3 planes (3 * j + 2) j 2 (omega arith) (omega arith))))
    (k * 3 + i) (omega arith)
    ∙ woven-at 3 planes (k * 3 + i) k i (omega arith) (omega arith)
