use Rattle.std.proofs.Common.{arith}
use Rattle.simd_samples.proofs.Arithmetic.{Makes-cast, fit_words}
use Rattle.simd_samples.proofs.Scaling.{Makes-scaled}
use Rattle.simd_samples.proofs.Pointwise.{Hold-of}
use Rattle.simd_samples.proofs.word_lanes.WordLanesLanes.scale.Goals as goal

pub overflow_cast-scaled : goal.overflow_cast-scaled
overflow_cast-scaled c = fit_words _ (Makes-scaled 18446744073709551616 65536 32 c.args.self.lanes c.args.factor c.args.offset (omega arith) (omega arith) (omega arith) c.args.self.samples.long c.requires.small).0

pub returns : goal.returns
returns c = Hold-of c.new.ensures (Makes-cast 65536 _ _ (omega arith) (Makes-scaled 18446744073709551616 65536 32 c.args.self.lanes c.args.factor c.args.offset (omega arith) (omega arith) (omega arith) c.args.self.samples.long c.requires.small)).1
