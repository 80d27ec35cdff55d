use Rattle.std.proofs.Common.{arith}
use Rattle.simd_samples.proofs.Arithmetic.{Makes-cast, fit_words}
use Rattle.simd_samples.proofs.Blending.{Makes-blended_words}
use Rattle.simd_samples.proofs.Pointwise.{Hold-of}
use Rattle.simd_samples.proofs.word_lanes.WordLanesLanes.blend.Goals as goal

pub overflow_cast-quotient : goal.overflow_cast-quotient
overflow_cast-quotient c = fit_words _ (Makes-blended_words _ _ _ c.args.self.samples c.args.made.samples c.args.weights.samples).0

pub returns : goal.returns
returns c = Hold-of c.new.ensures (Makes-cast 65536 _ _ (omega arith) (Makes-blended_words _ _ _ c.args.self.samples c.args.made.samples c.args.weights.samples)).1
