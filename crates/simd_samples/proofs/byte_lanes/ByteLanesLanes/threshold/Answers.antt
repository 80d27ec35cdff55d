use Rattle.std.proofs.Common.{arith}
use Rattle.simd_samples.proofs.Reached.{Makes-reached, reached_bytes}
use Rattle.simd_samples.proofs.Pointwise.{Hold-of}
use Rattle.simd_samples.proofs.byte_lanes.ByteLanesLanes.threshold.Goals as goal

pub returns : goal.returns
returns c = Hold-of c.new.ensures (Makes-reached 7 256 0 (omega arith) (omega arith) reached_bytes c.args.thresholds.lanes c.args.colors.lanes c.args.self.lanes c.args.thresholds.samples c.args.colors.samples c.args.self.samples).1
