use Rattle.std.proofs.Common.{arith}
use Rattle.simd_samples.proofs.Arithmetic.{Makes-cast, divides, fit_bytes}
use Rattle.simd_samples.proofs.Blending.{Makes-blended_bytes}
use Rattle.simd_samples.proofs.Pointwise.{Hold-of}
use Rattle.simd_samples.proofs.byte_lanes.ByteLanesLanes.blend.Goals as goal

pub nonzero_div-sum : goal.nonzero_div-sum
nonzero_div-sum c = divides _ 255 (omega arith)

pub overflow_cast-sum-3 : goal.overflow_cast-sum-3
overflow_cast-sum-3 c = fit_bytes _ (Makes-blended_bytes _ _ _ c.args.self.samples c.args.made.samples c.args.weights.samples).0

pub returns : goal.returns
returns c = Hold-of c.new.ensures (Makes-cast 256 _ _ (omega arith) (Makes-blended_bytes _ _ _ c.args.self.samples c.args.made.samples c.args.weights.samples)).1
