use Rattle.std.proofs.Common.{arith}
use Rattle.level_tables.proofs.Counting.{levels-most}
use Rattle.level_tables.proofs.laws.few_levels_are_held.Goals as goal

pub returns-clause-held : goal.returns-clause-held
returns-clause-held c = λ z tiles held over. levels-most tiles over.shape z

pub returns-clause-names : goal.returns-clause-names
returns-clause-names c = λ z now. omega arith
