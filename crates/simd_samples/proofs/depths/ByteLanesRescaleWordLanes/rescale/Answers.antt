use Rattle.simd_samples.proofs.DepthLaws.{Makes-widened}
use Rattle.simd_samples.proofs.depths.ByteLanesRescaleWordLanes.rescale.Goals as goal

pub invariant_of-result : goal.invariant_of-result
invariant_of-result c = record { samples = (Makes-widened c.args.self.lanes c.args.self.samples).0 }

pub returns : goal.returns
returns c = (Makes-widened c.args.self.lanes c.args.self.samples).1
