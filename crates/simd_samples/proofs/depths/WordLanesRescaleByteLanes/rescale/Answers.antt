use Rattle.std.proofs.Common.{replicate, arith}
use Rattle.simd_samples.proofs.Arithmetic.{Makes-cast, fit_bytes}
use Rattle.simd_samples.proofs.DepthLaws.{Makes-narrowed_words, narrowed}
use Rattle.simd_samples.proofs.depths.WordLanesRescaleByteLanes.rescale.Goals as goal

pub overflow_cast-result : goal.overflow_cast-result
overflow_cast-result c = fit_bytes (narrowed 65536 c.args.self.lanes (replicate 16 8) (replicate 16 127) (replicate 16 15)) (Makes-narrowed_words c.args.self.lanes c.args.self.samples).0

pub invariant_of-result : goal.invariant_of-result
invariant_of-result c =
    record { samples = (Makes-cast 256 (narrowed 65536 c.args.self.lanes (replicate 16 8) (replicate 16 127) (replicate 16 15)) _ (omega arith) (Makes-narrowed_words c.args.self.lanes c.args.self.samples)).0 }

pub returns : goal.returns
returns c =
    (Makes-cast 256 (narrowed 65536 c.args.self.lanes (replicate 16 8) (replicate 16 127) (replicate 16 15)) _ (omega arith) (Makes-narrowed_words c.args.self.lanes c.args.self.samples)).1
