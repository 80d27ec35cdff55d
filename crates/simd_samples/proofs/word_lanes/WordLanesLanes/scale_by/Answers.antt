use Rattle.std.proofs.Common.{arith}
use Rattle.simd_samples.proofs.Arithmetic.{Makes-cast, Makes-scaled_by_words, fit_words}
use Rattle.simd_samples.proofs.Pointwise.{Hold-of}
use Rattle.simd_samples.proofs.word_lanes.WordLanesLanes.scale_by.Goals as goal

pub overflow_cast-quotient : goal.overflow_cast-quotient
overflow_cast-quotient c = fit_words _ (Makes-scaled_by_words _ _ c.args.self.samples c.args.weights.samples).0

pub returns : goal.returns
returns c = Hold-of c.new.ensures (Makes-cast 65536 _ _ (omega arith) (Makes-scaled_by_words _ _ c.args.self.samples c.args.weights.samples)).1
