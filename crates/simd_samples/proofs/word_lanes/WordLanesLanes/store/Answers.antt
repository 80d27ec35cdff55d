use Rattle.std.proofs.Common.{refl}
use lib.Lanes.{digits_l, number_l}
use Rattle.simd_samples.proofs.Moves.{Hold-store_of_words, after_store}
use Rattle.simd_samples.proofs.word_lanes.WordLanesLanes.store.Goals as goal

pub returns-clause-here : goal.returns-clause-here
returns-clause-here c = Hold-store_of_words c.args.dst.now c.args.self.lanes c.requires c.args.self.samples

pub returns-clause-after : goal.returns-clause-after
returns-clause-after c k past = after_store c.args.dst.now (digits_l 256 32 (number_l 65536 c.args.self.lanes)) 32 k refl past
