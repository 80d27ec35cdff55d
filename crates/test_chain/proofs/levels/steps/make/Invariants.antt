use Rattle.test_chain.specs.Tables.{IsGray}
use Rattle.test_chain.proofs.levels.steps.make.Given as goal

abbrev pub invariant-loop-row : goal.invariant-loop-row
invariant-loop-row g l = IsGray l.table.tiles (g.C.ChainMeaning.held l.chain)
