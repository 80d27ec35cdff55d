use Rattle.std.proofs.Common.{◌≡◌, ◌≤◌, refl, length, arith}
use Rattle.std.specs.FinMap as map
use Rattle.chain_owners.proofs.HeldLaws.{after-disowned, after-owned, len-put, len-removed}
use Rattle.chain_owners.proofs.held_laws.names_are_counted.Goals as goal

pub returns-clause-put : goal.returns-clause-put
returns-clause-put c = λ held name bytes. len-put held.lengths name (length bytes)

pub returns-clause-removed : goal.returns-clause-removed
returns-clause-removed c = λ held name. len-removed held.lengths name

pub returns-clause-owned : goal.returns-clause-owned
returns-clause-owned c = λ held name. after-owned (λ new. map.len new.lengths ≡ map.len held.lengths) held name refl (λ count. refl)

pub returns-clause-disowned : goal.returns-clause-disowned
returns-clause-disowned c = λ held name.
    after-disowned (λ new. map.len new.lengths ≤ map.len held.lengths) held name (omega arith) (λ count. omega arith) (len-removed held.lengths name)
