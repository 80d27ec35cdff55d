use Rattle.simd_samples.proofs.Arithmetic.{AreLanes-longs}
use Rattle.simd_samples.proofs.long_lanes.LongLanes.new.Goals as goal

pub invariant_of-result : goal.invariant_of-result
invariant_of-result c = record { samples = AreLanes-longs c.args.lanes c.fits-lanes.0 c.fits-lanes.1 }
