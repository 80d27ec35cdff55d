use Rattle.std.proofs.Common.{inl, inr}
use Rattle.chain_owners.proofs.Ownership.{owned-respects}
use Rattle.chain_owners.proofs.owners_laws.owning_respects.Goals as goal

pub returns-clause-held : goal.returns-clause-held
returns-clause-held c = λ held names name some. owned-respects held names name (inr some)

pub returns-clause-free : goal.returns-clause-free
returns-clause-free c = λ held names name none. owned-respects held names name (inl none)
