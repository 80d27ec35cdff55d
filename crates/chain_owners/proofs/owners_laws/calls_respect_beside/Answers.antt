use Rattle.std.proofs.Common.{◌++◌, arith}
use Rattle.chain_owners.proofs.Ownership.{respects-beside, times-append}
use Rattle.chain_owners.proofs.owners_laws.calls_respect_beside.Goals as goal

pub returns-clause-left : goal.returns-clause-left
returns-clause-left c = λ old new before after beside respects.
    respects-beside old new before after respects (beside ++ before) (beside ++ after) beside
    (λ name. omega (arith, times-append beside before name)) (λ name. omega (arith, times-append beside after name))

pub returns-clause-right : goal.returns-clause-right
returns-clause-right c = λ old new before after beside respects.
    respects-beside old new before after respects (before ++ beside) (after ++ beside) beside
    (times-append before beside) (times-append after beside)
