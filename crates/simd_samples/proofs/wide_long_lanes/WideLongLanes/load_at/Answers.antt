use Rattle.std.proofs.Common.{arith}
use Rattle.simd_samples.proofs.Moves.{Makes-load_of_numbers}
use Rattle.simd_samples.proofs.wide_long_lanes.WideLongLanes.load_at.Goals as goal

pub invariant_of-result : goal.invariant_of-result
invariant_of-result c = (Makes-load_of_numbers 18446744073709551616 c.args.from c.args.src.now (omega arith) c.requires (λ k. (c.type_inv.src k).fits)).0

pub returns : goal.returns
returns c = (Makes-load_of_numbers 18446744073709551616 c.args.from c.args.src.now (omega arith) c.requires (λ k. (c.type_inv.src k).fits)).1
