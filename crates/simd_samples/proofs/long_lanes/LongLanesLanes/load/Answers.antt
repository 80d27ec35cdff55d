use Rattle.simd_samples.proofs.Moves.{Makes-load_of_longs}
use Rattle.simd_samples.proofs.Pointwise.{Hold-of}
use Rattle.simd_samples.proofs.long_lanes.LongLanesLanes.load.Goals as goal

pub returns : goal.returns
returns c = Hold-of c.new.ensures (Makes-load_of_longs c.args.src.now c.requires c.type_inv.src).1
