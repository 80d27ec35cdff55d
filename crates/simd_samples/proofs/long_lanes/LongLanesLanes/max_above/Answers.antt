use Rattle.std.proofs.Common.{arith}
use Rattle.simd_samples.proofs.Reached.{Makes-reached, reached_ints}
use Rattle.simd_samples.proofs.Pointwise.{Hold-of}
use Rattle.simd_samples.proofs.long_lanes.LongLanesLanes.max_above.Goals as goal

pub returns : goal.returns
returns c = Hold-of c.new.ensures (Makes-reached 31 4294967296 4294967295 (omega arith) (omega arith) reached_ints c.args.colors.lanes c.args.limits.lanes c.args.self.lanes c.args.colors.samples c.args.limits.samples c.args.self.samples).1
