use Rattle.std.proofs.Common.{arith}
use Rattle.simd_samples.proofs.Arithmetic.{AreLanes-cast_up}
use Rattle.simd_samples.proofs.word_lanes.WordLanesWiden.widen.Goals as goal

pub invariant_of-result : goal.invariant_of-result
invariant_of-result c =
    AreLanes-cast_up 65536 4294967296 c.args.self.lanes (omega arith) (omega arith) c.args.self.samples
