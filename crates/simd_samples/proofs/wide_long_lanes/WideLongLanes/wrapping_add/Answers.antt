use Rattle.std.proofs.Common.{◌+◌, ◌%◌, arith}
use Rattle.simd_samples.proofs.Arithmetic.{AreLanes-wrapped}
use Rattle.simd_samples.proofs.wide_long_lanes.WideLongLanes.wrapping_add.Goals as goal

pub invariant_of-result : goal.invariant_of-result
invariant_of-result c =
    AreLanes-wrapped 18446744073709551616 (λ a b. (a + b) % 18446744073709551616) (omega arith) (λ a b. omega arith) c.self.inside.lanes c.other.inside.lanes c.self.invariant.long c.other.invariant.long
