use Rattle.std.proofs.Common.{arith}
use Rattle.simd_samples.proofs.Arithmetic.{Makes-cast, fit_longs}
use Rattle.simd_samples.proofs.Scaling.{Makes-scaled_by_halves}
use Rattle.simd_samples.proofs.Pointwise.{Hold-of}
use Rattle.simd_samples.proofs.long_lanes.LongLanesLanes.scale.Goals as goal

pub overflow_cast-scaled : goal.overflow_cast-scaled
overflow_cast-scaled c = fit_longs _ (Makes-scaled_by_halves c.args.self.lanes c.args.factor c.args.offset c.args.self.samples (omega arith) (omega arith) c.requires.small).0

pub returns : goal.returns
returns c =
    Hold-of c.new.ensures
    (Makes-cast 4294967296 _ _ (omega arith) (Makes-scaled_by_halves c.args.self.lanes c.args.factor c.args.offset c.args.self.samples (omega arith) (omega arith) c.requires.small)).1
