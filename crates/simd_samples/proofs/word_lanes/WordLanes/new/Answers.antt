use Rattle.simd_samples.proofs.Arithmetic.{AreLanes-words}
use Rattle.simd_samples.proofs.word_lanes.WordLanes.new.Goals as goal

pub invariant_of-result : goal.invariant_of-result
invariant_of-result c = record { samples = AreLanes-words c.args.lanes c.fits-lanes.0 c.fits-lanes.1 }
