use Rattle.std.proofs.Common.{arith}
use Rattle.level_tables.proofs.Holding.{holds-both, holds-none, holds-raise}
use Rattle.level_tables.proofs.laws.more_tiles_are_held.Goals as goal

pub returns-clause-none : goal.returns-clause-none
returns-clause-none c = λ z now over. holds-none z now over

pub returns-clause-both : goal.returns-clause-both
returns-clause-both c = λ z a b d first second. holds-both z a b d first second

pub returns-clause-higher : goal.returns-clause-higher
returns-clause-higher c = λ z top a b le more. holds-raise z top a b le more

pub returns-clause-names : goal.returns-clause-names
returns-clause-names c = λ z a b more. (let few = more.names z (omega arith) in omega (arith, few))
