use Rattle.std.proofs.Common.{ap, ◌∙◌, arith}
use Rattle.simd_samples.proofs.VectorLaws.{sixteen_more}
use Rattle.simd_samples.proofs.vectors.store_two.Goals as goal

pub returns-clause-here : goal.returns-clause-here
returns-clause-here g c s both =
    let L = g.L.Lanes in
    let d = L.depth in
    sixteen_more d 16 c.store_at.new.dst c.store_at-2.new.dst (L.lane c.args.second) s
    (sixteen_more d 0 c.args.dst.now c.store_at.new.dst (L.lane c.args.first) s (λ i lt. absurd (omega arith)) (λ i lt. absurd (omega arith))
    c.store_at.ensures.here (λ j lt. both.0 j lt ∙ ap s (omega arith))) c.store_at-2.ensures.before c.store_at-2.ensures.here both.1
