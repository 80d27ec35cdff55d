use Rattle.std.proofs.Common.{arith}
use Rattle.simd_samples.proofs.Arithmetic.{Makes-cast, fit_longs}
use Rattle.simd_samples.proofs.Blending.{Makes-blended_longs}
use Rattle.simd_samples.proofs.Pointwise.{Hold-of}
use Rattle.simd_samples.proofs.long_lanes.LongLanesLanes.blend.Goals as goal

pub overflow_cast-quotient : goal.overflow_cast-quotient
overflow_cast-quotient c = fit_longs _ (Makes-blended_longs _ _ _ c.args.self.samples c.args.made.samples c.args.weights.samples).0

pub returns : goal.returns
returns c = Hold-of c.new.ensures (Makes-cast 4294967296 _ _ (omega arith) (Makes-blended_longs _ _ _ c.args.self.samples c.args.made.samples c.args.weights.samples)).1
