use Rattle.std.proofs.Common.{refl}
use lib.Lanes.{digits_l, number_l}
use Rattle.simd_samples.proofs.Moves.{Hold-store_of_longs, after_store}
use Rattle.simd_samples.proofs.long_lanes.LongLanesLanes.store.Goals as goal

pub returns-clause-here : goal.returns-clause-here
returns-clause-here c = Hold-store_of_longs c.args.dst.now c.args.self.lanes c.requires c.args.self.samples

pub returns-clause-after : goal.returns-clause-after
returns-clause-after c k past = after_store c.args.dst.now (digits_l 256 64 (number_l 4294967296 c.args.self.lanes)) 64 k refl past
