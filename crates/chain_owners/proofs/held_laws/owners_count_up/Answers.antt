use Rattle.chain_owners.proofs.Ownership.{owned-more, owned-stopped}
use Rattle.chain_owners.proofs.held_laws.owners_count_up.Goals as goal

pub returns-clause-more : goal.returns-clause-more
returns-clause-more c = owned-more

pub returns-clause-stopped : goal.returns-clause-stopped
returns-clause-stopped c = owned-stopped
