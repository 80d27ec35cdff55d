use Rattle.std.proofs.Common.{arith}
use Rattle.simd_samples.proofs.Arithmetic.{AreLanes-cast_up}
use Rattle.simd_samples.proofs.wide_long_lanes.WideLongLanes.from_longs.Goals as goal

pub invariant_of-result : goal.invariant_of-result
invariant_of-result c =
    AreLanes-cast_up 4294967296 18446744073709551616 c.args.samples.lanes (omega arith) (omega arith) c.args.samples.samples
