use Rattle.std.proofs.Common.{length, sym}
use Rattle.chain_owners.specs.Held.{HasLengths}
use Rattle.chain_owners.proofs.HeldLaws.{after-disowned, after-owned, lengths-put, lengths-removed}
use Rattle.chain_owners.proofs.MapValues.{map_values-empty}
use Rattle.chain_owners.proofs.held_laws.lengths_stay_exact.Goals as goal

pub returns-clause-none : goal.returns-clause-none
returns-clause-none c = sym (map_values-empty length)

pub returns-clause-put : goal.returns-clause-put
returns-clause-put c = λ held name bytes. lengths-put held.content held.lengths name bytes

pub returns-clause-removed : goal.returns-clause-removed
returns-clause-removed c = λ held name. lengths-removed held.content held.lengths name

pub returns-clause-owned : goal.returns-clause-owned
returns-clause-owned c = λ held name is. after-owned HasLengths held name is (λ count. is)

pub returns-clause-disowned : goal.returns-clause-disowned
returns-clause-disowned c = λ held name is.
    after-disowned HasLengths held name is (λ count. is) (lengths-removed held.content held.lengths name is)
