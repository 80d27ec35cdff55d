use Rattle.std.proofs.Common.{arith}
use Rattle.simd_samples.proofs.Arithmetic.{Makes-cast, Makes-scaled_by_longs, fit_longs}
use Rattle.simd_samples.proofs.Pointwise.{Hold-of}
use Rattle.simd_samples.proofs.long_lanes.LongLanesLanes.scale_by.Goals as goal

pub overflow_cast-quotient : goal.overflow_cast-quotient
overflow_cast-quotient c = fit_longs _ (Makes-scaled_by_longs _ _ c.args.self.samples c.args.weights.samples).0

pub returns : goal.returns
returns c = Hold-of c.new.ensures (Makes-cast 4294967296 _ _ (omega arith) (Makes-scaled_by_longs _ _ c.args.self.samples c.args.weights.samples)).1
