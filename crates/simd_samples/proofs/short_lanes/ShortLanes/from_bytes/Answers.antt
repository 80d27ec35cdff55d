use Rattle.std.proofs.Common.{arith}
use Rattle.simd_samples.proofs.Arithmetic.{AreLanes-cast_up}
use Rattle.simd_samples.proofs.short_lanes.ShortLanes.from_bytes.Goals as goal

pub invariant_of-result : goal.invariant_of-result
invariant_of-result c =
    AreLanes-cast_up 256 65536 c.args.samples.lanes (omega arith) (omega arith) c.args.samples.samples
