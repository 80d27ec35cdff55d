use Rattle.std.proofs.Common.{refl}
use Rattle.chain_owners.specs.Owners.{Unchanged}
use Rattle.chain_owners.proofs.HeldLaws.{after-disowned, after-owned}
use Rattle.chain_owners.proofs.Ownership.{put-unchanged, removed-unchanged, unchanged-same}
use Rattle.chain_owners.proofs.held_laws.other_names_are_unchanged.Goals as goal

pub returns-clause-put : goal.returns-clause-put
returns-clause-put c = λ held name other bytes ne. put-unchanged held name bytes other ne

pub returns-clause-removed : goal.returns-clause-removed
returns-clause-removed c = λ held name other ne.
    let same = removed-unchanged held name other ne in record { length = same.length; bytes = same.bytes }

pub returns-clause-owned : goal.returns-clause-owned
returns-clause-owned c = λ held name other.
    after-owned (λ new. Unchanged held new other) held name (unchanged-same held other) (λ count. record { length = refl; bytes = refl })

pub returns-clause-disowned : goal.returns-clause-disowned
returns-clause-disowned c = λ held name other ne.
    after-disowned (λ new. Unchanged held new other) held name (unchanged-same held other) (λ count. record { length = refl; bytes = refl })
    (removed-unchanged held name other ne)
