use Rattle.simd_samples.proofs.Saturation.{Makes-max_sample, highest_of_bytes}
use Rattle.simd_samples.proofs.Pointwise.{Hold-of}
use Rattle.simd_samples.proofs.byte_lanes.ByteLanesLanes.max.Goals as goal

pub returns : goal.returns
returns c = Hold-of c.new.ensures (Makes-max_sample 7 256 highest_of_bytes c.args.self.lanes c.args.other.lanes c.args.self.samples c.args.other.samples).1
