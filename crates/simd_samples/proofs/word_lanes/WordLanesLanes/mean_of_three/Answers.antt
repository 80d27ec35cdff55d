use Rattle.std.proofs.Common.{arith}
use Rattle.simd_samples.proofs.Arithmetic.{Makes-cast, Makes-means_of_three, divides, fit_words}
use Rattle.simd_samples.proofs.Pointwise.{Hold-of}
use Rattle.simd_samples.proofs.word_lanes.WordLanesLanes.mean_of_three.Goals as goal

pub nonzero_div-sum : goal.nonzero_div-sum
nonzero_div-sum c = divides _ 3 (omega arith)

pub overflow_cast-sum-2 : goal.overflow_cast-sum-2
overflow_cast-sum-2 c = fit_words _ (Makes-means_of_three 4294967296 65536 (omega arith) (omega arith) _ _ _ c.args.self.lanes c.args.self.samples c.args.second.samples c.args.third.samples).0

pub returns : goal.returns
returns c = Hold-of c.new.ensures (Makes-cast 65536 _ _ (omega arith) (Makes-means_of_three 4294967296 65536 (omega arith) (omega arith) _ _ _ c.args.self.lanes c.args.self.samples c.args.second.samples c.args.third.samples)).1
