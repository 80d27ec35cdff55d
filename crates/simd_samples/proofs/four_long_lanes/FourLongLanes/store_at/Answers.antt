use Rattle.std.proofs.Common.{get_or, ap, ◌∙◌, arith}
use Rattle.std.proofs.lemmas.Simd.{get_or-put_chunk_above, get_or-put_chunk_at, get_or-put_chunk_below}
use Rattle.simd_samples.proofs.four_long_lanes.FourLongLanes.store_at.Goals as goal

pub returns-clause-here : goal.returns-clause-here
returns-clause-here c j lt =
    let long = c.self.invariant in
    get_or-put_chunk_at c.args.from c.args.dst.now c.self.inside.lanes j 0 (omega (arith, long)) (omega (arith, long, c.requires))
    ∙ ap (λ l. get_or l j 0) c.self.view_is

pub returns-clause-before : goal.returns-clause-before
returns-clause-before c i lt = get_or-put_chunk_below c.args.from c.args.dst.now c.self.inside.lanes i 0 lt

pub returns-clause-after : goal.returns-clause-after
returns-clause-after c i far = get_or-put_chunk_above c.args.from c.args.dst.now c.self.inside.lanes i 0 (omega (arith, far, c.self.invariant))
