use Rattle.simd_samples.proofs.Saturation.{Makes-total, highest_of_ints}
use Rattle.simd_samples.proofs.Pointwise.{Hold-of}
use Rattle.simd_samples.proofs.long_lanes.LongLanesLanes.saturating_add.Goals as goal

pub returns : goal.returns
returns c = Hold-of c.new.ensures (Makes-total 31 4294967296 highest_of_ints c.args.self.lanes c.args.other.lanes c.args.self.samples c.args.other.samples).1
