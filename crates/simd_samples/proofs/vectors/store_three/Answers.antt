use Rattle.simd_samples.proofs.VectorLaws.{sixteen_more}
use Rattle.simd_samples.proofs.vectors.store_three.Goals as goal

pub returns-clause-here : goal.returns-clause-here
returns-clause-here g c s all =
    let L = g.L.Lanes in
    let d = L.depth in
    sixteen_more d 32 c.store_two.new.dst c.store_at.new.dst (L.lane c.args.third) s
    (c.store_two.ensures.here s (all.0, all.1)) c.store_at.ensures.before c.store_at.ensures.here all.2
