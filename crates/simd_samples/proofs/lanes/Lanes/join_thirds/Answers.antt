use Rattle.std.proofs.Common.{ap, ◌∙◌, arith}
use Rattle.simd_samples.proofs.Interleaving.{HoldThree-by_turns, by_turns_of_three}
use Rattle.simd_samples.proofs.lanes.Lanes.join_thirds.Goals as goal

pub returns : goal.returns
returns g c s x y z =
    let lane = g.Self.Lanes.lane in
    let all = HoldThree-by_turns s (lane c.args.self) (lane c.args.second) (lane c.args.third) x y z in (
      λ j lt. c.shuffle_three.ensures (by_turns_of_three s) all j lt ∙ ap s (omega arith),
      λ j lt. c.shuffle_three-2.ensures (by_turns_of_three s) all j lt ∙ ap s (omega arith),
      λ j lt. c.shuffle_three-3.ensures (by_turns_of_three s) all j lt ∙ ap s (omega arith),
    )
