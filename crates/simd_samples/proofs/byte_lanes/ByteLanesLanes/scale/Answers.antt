use Rattle.std.proofs.Common.{arith}
use Rattle.simd_samples.proofs.Arithmetic.{Makes-cast, fit_bytes}
use Rattle.simd_samples.proofs.Scaling.{Makes-scaled}
use Rattle.simd_samples.proofs.Pointwise.{Hold-of}
use Rattle.simd_samples.proofs.byte_lanes.ByteLanesLanes.scale.Goals as goal

pub overflow_cast-scaled-2 : goal.overflow_cast-scaled-2
overflow_cast-scaled-2 c = fit_bytes _ (Makes-scaled 4294967296 256 24 c.args.self.lanes c.args.factor c.args.offset (omega arith) (omega arith) (omega arith) c.args.self.samples.long c.requires.small).0

pub returns : goal.returns
returns c = Hold-of c.new.ensures (Makes-cast 256 _ _ (omega arith) (Makes-scaled 4294967296 256 24 c.args.self.lanes c.args.factor c.args.offset (omega arith) (omega arith) (omega arith) c.args.self.samples.long c.requires.small)).1
