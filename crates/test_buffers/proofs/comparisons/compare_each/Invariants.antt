use Rattle.buffer_view.specs.BufferTables.{AreBuffersOver}
use Rattle.test_buffers.proofs.comparisons.compare_each.Given as goal

abbrev pub invariant-loop-number : goal.invariant-loop-number
invariant-loop-number g l = AreBuffersOver l.buffers (g.C.ChainMeaning.held l.chain)
