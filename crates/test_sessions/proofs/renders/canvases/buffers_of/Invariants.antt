use Rattle.buffer_view.specs.BufferTables.{AreBuffersOver}
use Rattle.test_sessions.proofs.renders.canvases.buffers_of.Given as goal

abbrev pub invariant-loop-row : goal.invariant-loop-row
invariant-loop-row g l = AreBuffersOver l.buffers (g.C.ChainMeaning.held l.chain)
