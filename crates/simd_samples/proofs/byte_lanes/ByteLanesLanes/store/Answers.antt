use Rattle.simd_samples.proofs.Moves.{Hold-store_of_bytes, after_store}
use Rattle.simd_samples.proofs.byte_lanes.ByteLanesLanes.store.Goals as goal

pub returns-clause-here : goal.returns-clause-here
returns-clause-here c = Hold-store_of_bytes c.args.dst.now c.args.self.lanes c.requires c.args.self.samples.long

pub returns-clause-after : goal.returns-clause-after
returns-clause-after c k past = after_store c.args.dst.now (c.args.self.lanes) 16 k c.args.self.samples.long past
