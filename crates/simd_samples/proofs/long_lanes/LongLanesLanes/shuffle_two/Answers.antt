use Rattle.std.proofs.Common.{◌∙◌, arith}
use Rattle.simd_samples.proofs.Shuffling.{Hold-of_two}
use Rattle.simd_samples.proofs.long_lanes.LongLanesLanes.shuffle_two.Goals as goal

pub returns : goal.returns
returns c =
    Hold-of_two 4294967296 (omega arith) c.args.self.lanes c.args.second.lanes _ c.args.self.samples c.args.second.samples c.args.shuffle (c.new.ensures ∙ c.longs_of_two.ensures)
