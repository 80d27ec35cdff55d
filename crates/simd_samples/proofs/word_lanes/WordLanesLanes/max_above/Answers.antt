use Rattle.std.proofs.Common.{arith}
use Rattle.simd_samples.proofs.Reached.{Makes-reached, reached_words}
use Rattle.simd_samples.proofs.Pointwise.{Hold-of}
use Rattle.simd_samples.proofs.word_lanes.WordLanesLanes.max_above.Goals as goal

pub returns : goal.returns
returns c = Hold-of c.new.ensures (Makes-reached 15 65536 65535 (omega arith) (omega arith) reached_words c.args.colors.lanes c.args.limits.lanes c.args.self.lanes c.args.colors.samples c.args.limits.samples c.args.self.samples).1
