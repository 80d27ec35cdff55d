use Rattle.std.proofs.Common.{replicate, arith}
use Rattle.simd_samples.proofs.Arithmetic.{Makes-cast, fit_words}
use Rattle.simd_samples.proofs.DepthLaws.{Makes-narrowed_longs, narrowed}
use Rattle.simd_samples.proofs.depths.LongLanesRescaleWordLanes.rescale.Goals as goal

pub overflow_cast-result : goal.overflow_cast-result
overflow_cast-result c = fit_words (narrowed 4294967296 c.args.self.lanes (replicate 16 16) (replicate 16 32767) (replicate 16 31)) (Makes-narrowed_longs c.args.self.lanes c.args.self.samples).0

pub invariant_of-result : goal.invariant_of-result
invariant_of-result c =
    record { samples = (Makes-cast 65536 (narrowed 4294967296 c.args.self.lanes (replicate 16 16) (replicate 16 32767) (replicate 16 31)) _ (omega arith) (Makes-narrowed_longs c.args.self.lanes c.args.self.samples)).0 }

pub returns : goal.returns
returns c =
    (Makes-cast 65536 (narrowed 4294967296 c.args.self.lanes (replicate 16 16) (replicate 16 32767) (replicate 16 31)) _ (omega arith) (Makes-narrowed_longs c.args.self.lanes c.args.self.samples)).1
