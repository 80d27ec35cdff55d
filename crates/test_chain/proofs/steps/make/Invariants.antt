use Rattle.test_chain.specs.Pages.{HasPages}
use Rattle.test_chain.proofs.steps.make.Given as goal

abbrev pub invariant-loop-row : goal.invariant-loop-row
invariant-loop-row g l = HasPages (g.C.ChainMeaning.held l.chain) (g.C.ChainMeaning.is_valid l.chain)
