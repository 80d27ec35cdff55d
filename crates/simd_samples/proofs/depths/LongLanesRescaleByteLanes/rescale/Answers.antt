use Rattle.std.proofs.Common.{arith}
use Rattle.simd_samples.proofs.Arithmetic.{Makes-cast, fit_bytes}
use Rattle.simd_samples.proofs.DepthLaws.{Makes-scaled_to_bytes}
use Rattle.simd_samples.proofs.depths.LongLanesRescaleByteLanes.rescale.Goals as goal

pub overflow_cast-result : goal.overflow_cast-result
overflow_cast-result c =
    fit_bytes c.scale_by-scaled.result.lanes
    (Makes-scaled_to_bytes c.args.self.lanes c.splat.result.lanes c.scale_by-scaled.result.lanes c.args.self.samples c.splat.ensures c.scale_by-scaled.result.samples.long c.scale_by-scaled.ensures).0

pub invariant_of-result : goal.invariant_of-result
invariant_of-result c =
    record {
      samples = (Makes-cast 256 c.scale_by-scaled.result.lanes _ (omega arith)
          (Makes-scaled_to_bytes c.args.self.lanes c.splat.result.lanes c.scale_by-scaled.result.lanes c.args.self.samples c.splat.ensures c.scale_by-scaled.result.samples.long c.scale_by-scaled.ensures)).0;
    }

pub returns : goal.returns
returns c =
    (Makes-cast 256 c.scale_by-scaled.result.lanes _ (omega arith)
    (Makes-scaled_to_bytes c.args.self.lanes c.splat.result.lanes c.scale_by-scaled.result.lanes c.args.self.samples c.splat.ensures c.scale_by-scaled.result.samples.long c.scale_by-scaled.ensures)).1
