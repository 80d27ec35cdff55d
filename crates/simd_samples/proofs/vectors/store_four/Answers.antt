use Rattle.simd_samples.proofs.VectorLaws.{sixteen_more}
use Rattle.simd_samples.proofs.vectors.store_four.Goals as goal

pub returns-clause-here : goal.returns-clause-here
returns-clause-here g c s all =
    let L = g.L.Lanes in
    let d = L.depth in
    sixteen_more d 48 c.store_three.new.dst c.store_at.new.dst (L.lane c.args.fourth) s
    (c.store_three.ensures.here s (all.0, all.1, all.2)) c.store_at.ensures.before c.store_at.ensures.here all.3
