use Rattle.std.proofs.Common.{arith}
use Rattle.simd_samples.proofs.DepthLaws.{Makes-multiplied}
use Rattle.simd_samples.proofs.depths.WordLanesRescaleLongLanes.rescale.Goals as goal

pub invariant_of-result : goal.invariant_of-result
invariant_of-result c = record { samples = (Makes-multiplied 65536 65537 c.args.self.lanes (omega arith) (omega arith) c.args.self.samples).0 }

pub returns : goal.returns
returns c = (Makes-multiplied 65536 65537 c.args.self.lanes (omega arith) (omega arith) c.args.self.samples).1
