use Rattle.std.proofs.Common.{arith}
use Rattle.simd_samples.proofs.Reached.{Makes-reached, reached_ints}
use Rattle.simd_samples.proofs.Pointwise.{Hold-of}
use Rattle.simd_samples.proofs.long_lanes.LongLanesLanes.threshold.Goals as goal

pub returns : goal.returns
returns c = Hold-of c.new.ensures (Makes-reached 31 4294967296 0 (omega arith) (omega arith) reached_ints c.args.thresholds.lanes c.args.colors.lanes c.args.self.lanes c.args.thresholds.samples c.args.colors.samples c.args.self.samples).1
