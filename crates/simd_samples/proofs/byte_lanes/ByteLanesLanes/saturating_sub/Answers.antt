use Rattle.simd_samples.proofs.Saturation.{Makes-difference, highest_of_bytes}
use Rattle.simd_samples.proofs.Pointwise.{Hold-of}
use Rattle.simd_samples.proofs.byte_lanes.ByteLanesLanes.saturating_sub.Goals as goal

pub returns : goal.returns
returns c = Hold-of c.new.ensures (Makes-difference 7 256 highest_of_bytes c.args.self.lanes c.args.other.lanes c.args.self.samples c.args.other.samples).1
