use Rattle.std.proofs.Common.{◌%◌, eqb, ◌∙◌}
use Rattle.simd_samples.proofs.Interleaving.{HoldTwo-joined, joined, joined-chosen}
use Rattle.simd_samples.proofs.lanes.Lanes.with_second.Goals as goal

pub returns : goal.returns
returns g c j lt =
    let lane = g.Self.Lanes.lane c.args.self in
    let old = g.Self.Lanes.lane c.args.old in
    c.shuffle_two.ensures (joined lane old) (HoldTwo-joined lane old) j lt ∙ joined-chosen lane old j lt (eqb (j % 2) 1)
