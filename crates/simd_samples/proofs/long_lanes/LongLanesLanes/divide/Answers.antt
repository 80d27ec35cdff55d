use Rattle.std.proofs.Common.{arith}
use Rattle.simd_samples.proofs.Arithmetic.{AreLanes-cast_up, fit_longs}
use Rattle.simd_samples.proofs.Scaling.{Makes-cast_quotients}
use Rattle.simd_samples.proofs.Pointwise.{Hold-of}
use Rattle.simd_samples.proofs.long_lanes.LongLanesLanes.divide.Goals as goal

pub limited_quotients-quotients-requires-clause-samples : goal.limited_quotients-quotients-requires-clause-samples
limited_quotients-quotients-requires-clause-samples c = AreLanes-cast_up 4294967296 4294967296 _ (omega arith) (omega arith) c.args.self.samples

pub overflow_cast-quotients : goal.overflow_cast-quotients
overflow_cast-quotients c = fit_longs _ c.limited_quotients-quotients.ensures.lanes

pub returns : goal.returns
returns c = Hold-of c.new.ensures (Makes-cast_quotients 4294967295 _ _ _ _ _ c.args.self.samples c.limited_quotients-quotients.ensures.lanes c.limited_quotients-quotients.ensures.quotients).1
