use Rattle.std.proofs.Common.{ap, ◌∙◌, arith}
use Rattle.simd_samples.proofs.Interleaving.{HoldTwo-by_turns, by_turns_of_two}
use Rattle.simd_samples.proofs.lanes.Lanes.interleave.Goals as goal

pub returns : goal.returns
returns g c s a b =
    let both = HoldTwo-by_turns s (g.Self.Lanes.lane c.args.self) (g.Self.Lanes.lane c.args.other) a b in (
      λ j lt. c.shuffle_two.ensures (by_turns_of_two s) both j lt ∙ ap s (omega arith),
      λ j lt. c.shuffle_two-2.ensures (by_turns_of_two s) both j lt ∙ ap s (omega arith),
    )
