use Rattle.simd_samples.proofs.Arithmetic.{AreLanes-bytes}
use Rattle.simd_samples.proofs.byte_lanes.ByteLanes.new.Goals as goal

pub invariant_of-result : goal.invariant_of-result
invariant_of-result c = record { samples = AreLanes-bytes c.args.lanes c.fits-lanes.0 c.fits-lanes.1 }
