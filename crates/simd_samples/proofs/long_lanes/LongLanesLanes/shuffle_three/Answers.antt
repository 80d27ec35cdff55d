use Rattle.std.proofs.Common.{◌∙◌, arith}
use Rattle.simd_samples.proofs.Shuffling.{Hold-of_three}
use Rattle.simd_samples.proofs.long_lanes.LongLanesLanes.shuffle_three.Goals as goal

pub returns : goal.returns
returns c =
    Hold-of_three 4294967296 (omega arith) _ _ _ _ _ c.args.self.samples c.args.second.samples c.args.third.samples c.args.shuffle c.longs_of_first_two-two.ensures (c.new.ensures ∙ c.longs_with_third.ensures)
