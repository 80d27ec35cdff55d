use Rattle.buffer_view.specs.BufferTables.{AreBuffersOver}
use Rattle.test_buffers.proofs.comparisons.compare_policies.Given as goal

abbrev pub invariant-loop-abyss : goal.invariant-loop-abyss
invariant-loop-abyss g l = AreBuffersOver l.buffers (g.C.ChainMeaning.held l.chain)
