use Rattle.buffer_view.specs.BufferTables.{AreBuffersOver}
use Rattle.test_buffers.proofs.comparisons.compare_levels.Given as goal

abbrev pub invariant-loop-level : goal.invariant-loop-level
invariant-loop-level g l = AreBuffersOver l.buffers (g.C.ChainMeaning.held l.chain)
