use Rattle.simd_samples.proofs.Saturation.{Makes-max_sample, highest_of_words}
use Rattle.simd_samples.proofs.Pointwise.{Hold-of}
use Rattle.simd_samples.proofs.word_lanes.WordLanesLanes.max.Goals as goal

pub returns : goal.returns
returns c = Hold-of c.new.ensures (Makes-max_sample 15 65536 highest_of_words c.args.self.lanes c.args.other.lanes c.args.self.samples c.args.other.samples).1
