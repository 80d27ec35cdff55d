use Rattle.std.proofs.Common.{◌+◌, ◌-◌, ◌%◌, arith}
use Rattle.simd_samples.proofs.Arithmetic.{AreLanes-wrapped}
use Rattle.simd_samples.proofs.wide_lanes.WideLanes.wrapping_sub.Goals as goal

pub invariant_of-result : goal.invariant_of-result
invariant_of-result c =
    AreLanes-wrapped 4294967296 (λ a b. (a + (4294967296 - b)) % 4294967296) (omega arith) (λ a b. omega arith) c.self.inside.lanes c.other.inside.lanes c.self.invariant.long c.other.invariant.long
