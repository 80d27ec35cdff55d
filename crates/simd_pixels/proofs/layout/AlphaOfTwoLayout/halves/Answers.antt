use Rattle.std.proofs.Common.{◌+◌, ◌*◌, ap, ◌∙◌, arith}
use Rattle.simd_pixels.proofs.layout.AlphaOfTwoLayout.halves.Goals as goal

pub returns-clause-even : goal.returns-clause-even
returns-clause-even g c s both k i lt within = c.deinterleave_pairs.ensures.even s both (k * 2 + i) (omega arith) ∙ ap s (omega arith)

pub returns-clause-odd : goal.returns-clause-odd
returns-clause-odd g c s both k i lt within = c.deinterleave_pairs.ensures.odd s both (k * 2 + i) (omega arith) ∙ ap s (omega arith)
