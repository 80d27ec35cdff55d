use Rattle.std.proofs.Common.{arith}
use Rattle.simd_samples.proofs.Arithmetic.{Makes-cast, Makes-means_of_three, divides, fit_longs}
use Rattle.simd_samples.proofs.Pointwise.{Hold-of}
use Rattle.simd_samples.proofs.long_lanes.LongLanesLanes.mean_of_three.Goals as goal

pub nonzero_div-sum : goal.nonzero_div-sum
nonzero_div-sum c = divides _ 3 (omega arith)

pub overflow_cast-sum-2 : goal.overflow_cast-sum-2
overflow_cast-sum-2 c = fit_longs _ (Makes-means_of_three 18446744073709551616 4294967296 (omega arith) (omega arith) _ _ _ c.args.self.lanes c.args.self.samples c.args.second.samples c.args.third.samples).0

pub returns : goal.returns
returns c = Hold-of c.new.ensures (Makes-cast 4294967296 _ _ (omega arith) (Makes-means_of_three 18446744073709551616 4294967296 (omega arith) (omega arith) _ _ _ c.args.self.lanes c.args.self.samples c.args.second.samples c.args.third.samples)).1
