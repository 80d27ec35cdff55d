use Rattle.std.proofs.Common.{[], arith}
use Rattle.chain_owners.proofs.Ownership.{respects-beside}
use Rattle.chain_owners.proofs.owners_laws.calls_respect_in_any_order.Goals as goal

pub returns : goal.returns
returns c = λ old new before after before' after' is is' respects.
    respects-beside old new before after respects before' after' [] (λ name. omega (arith, is name)) (λ name. omega (arith, is' name))
