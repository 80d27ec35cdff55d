use Rattle.std.proofs.Common.{◌∙◌, arith}
use Rattle.simd_samples.proofs.Shuffling.{Hold-of_two}
use Rattle.simd_samples.proofs.word_lanes.WordLanesLanes.shuffle_two.Goals as goal

pub returns : goal.returns
returns c =
    Hold-of_two 65536 (omega arith) c.args.self.lanes c.args.second.lanes _ c.args.self.samples c.args.second.samples c.args.shuffle (c.new.ensures ∙ c.words_of_two.ensures)
