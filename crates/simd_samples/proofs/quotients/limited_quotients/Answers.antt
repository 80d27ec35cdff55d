use Rattle.std.proofs.Common.{arith}
use Rattle.simd_samples.proofs.Arithmetic.{divides}
use Rattle.simd_samples.proofs.Scaling.{Makes-divided}
use Rattle.simd_samples.proofs.quotients.limited_quotients.Goals as goal

pub nonzero_div-quotients : goal.nonzero_div-quotients
nonzero_div-quotients c = divides _ c.args.divisor c.requires.divisor

pub returns-clause-lanes : goal.returns-clause-lanes
returns-clause-lanes c = (Makes-divided c.args.most c.args.samples c.args.number c.args.offset c.args.divisor (omega (arith, c.requires.most)) c.requires.samples c.requires.number c.requires.offset).0

pub returns-clause-quotients : goal.returns-clause-quotients
returns-clause-quotients c = (Makes-divided c.args.most c.args.samples c.args.number c.args.offset c.args.divisor (omega (arith, c.requires.most)) c.requires.samples c.requires.number c.requires.offset).1
