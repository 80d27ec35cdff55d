use Rattle.std.proofs.Common.{arith}
use Rattle.std.proofs.lemmas.Simd.{get_or-put_chunk_above, get_or-put_chunk_below}
use Rattle.simd_samples.proofs.VectorLaws.{stored-here}
use Rattle.simd_samples.proofs.wide_long_lanes.WideLongLanes.store_at.Goals as goal

pub returns-clause-here : goal.returns-clause-here
returns-clause-here c = stored-here c.args.from c.args.dst.now c.self.inside.lanes c.args.self c.self.invariant.long c.self.view_is c.requires

pub returns-clause-before : goal.returns-clause-before
returns-clause-before c i lt = get_or-put_chunk_below c.args.from c.args.dst.now c.self.inside.lanes i 0 lt

pub returns-clause-after : goal.returns-clause-after
returns-clause-after c i far = get_or-put_chunk_above c.args.from c.args.dst.now c.self.inside.lanes i 0 (omega (arith, far, c.self.invariant.long))
