use Rattle.std.proofs.Common.{◌+◌, ◌*◌, ap, ◌∙◌, arith}
use Rattle.simd_pixels.proofs.layout.AlphaOfFourLayout.halves.Goals as goal

pub returns-clause-even : goal.returns-clause-even
returns-clause-even g c s both k i lt within = c.deinterleave_fours.ensures.even s both (k * 4 + i) (omega arith) ∙ ap s (omega arith)

pub returns-clause-odd : goal.returns-clause-odd
returns-clause-odd g c s both k i lt within = c.deinterleave_fours.ensures.odd s both (k * 4 + i) (omega arith) ∙ ap s (omega arith)
