use Rattle.test_chain.specs.Pages.{ArePages}
use Rattle.test_chain.proofs.handlers.put_three.Given as goal

abbrev pub invariant-loop-call : goal.invariant-loop-call
invariant-loop-call g l = ArePages (g.H.ChainMeaning.held l.handler)
