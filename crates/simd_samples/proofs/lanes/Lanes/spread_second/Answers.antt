use Rattle.std.proofs.Common.{ap, ◌∙◌, arith}
use Rattle.simd_samples.proofs.Interleaving.{HoldTwo-repeated, repeated}
use Rattle.simd_samples.proofs.lanes.Lanes.spread_second.Goals as goal

pub returns : goal.returns
returns g c j lt =
    let lane = g.Self.Lanes.lane c.args.self in
    c.shuffle_two.ensures (repeated lane) (HoldTwo-repeated lane) j lt ∙ ap lane (omega arith)
