use Rattle.buffer_view.specs.BufferTables.{AreBuffersOver}
use Rattle.test_buffers.proofs.comparisons.compare_moves.Given as goal

abbrev pub invariant-loop-by : goal.invariant-loop-by
invariant-loop-by g l = AreBuffersOver l.buffers (g.C.ChainMeaning.held l.chain)
