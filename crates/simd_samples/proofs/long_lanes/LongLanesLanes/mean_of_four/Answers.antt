use Rattle.std.proofs.Common.{arith}
use Rattle.simd_samples.proofs.Arithmetic.{Makes-cast, Makes-means_of_four, fit_longs}
use Rattle.simd_samples.proofs.Pointwise.{Hold-of}
use Rattle.simd_samples.proofs.long_lanes.LongLanesLanes.mean_of_four.Goals as goal

pub overflow_cast-sum : goal.overflow_cast-sum
overflow_cast-sum c = fit_longs _ (Makes-means_of_four 18446744073709551616 4294967296 (omega arith) (omega arith) _ _ _ _ c.args.self.samples c.args.second.samples c.args.third.samples c.args.fourth.samples).0

pub returns : goal.returns
returns c = Hold-of c.new.ensures (Makes-cast 4294967296 _ _ (omega arith) (Makes-means_of_four 18446744073709551616 4294967296 (omega arith) (omega arith) _ _ _ _ c.args.self.samples c.args.second.samples c.args.third.samples c.args.fourth.samples)).1
