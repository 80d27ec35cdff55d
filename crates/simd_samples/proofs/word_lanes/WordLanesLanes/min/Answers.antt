use Rattle.simd_samples.proofs.Saturation.{Makes-minimum, highest_of_words}
use Rattle.simd_samples.proofs.Pointwise.{Hold-of}
use Rattle.simd_samples.proofs.word_lanes.WordLanesLanes.min.Goals as goal

pub returns : goal.returns
returns c = Hold-of c.new.ensures (Makes-minimum 15 65536 highest_of_words c.args.self.lanes c.args.other.lanes c.args.self.samples c.args.other.samples).1
