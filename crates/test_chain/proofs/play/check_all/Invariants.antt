use Rattle.test_chain.specs.Pages.{HasPages}
use Rattle.test_chain.proofs.play.check_all.Given as goal

abbrev pub invariant-loop-entry : goal.invariant-loop-entry
invariant-loop-entry g l = HasPages (g.C.ChainMeaning.held l.chain) (g.C.ChainMeaning.is_valid l.chain)
