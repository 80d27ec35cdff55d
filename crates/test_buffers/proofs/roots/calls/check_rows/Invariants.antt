use Rattle.test_buffers.specs.Gray.{IsGray}
use Rattle.test_buffers.proofs.roots.calls.check_rows.Given as goal

abbrev pub invariant-loop-row : goal.invariant-loop-row
invariant-loop-row g l = IsGray l.root (g.C.ChainMeaning.held l.chain)
