use Rattle.chain_owners.proofs.Ownership.{disowned-fewer, disowned-last, disowned-stopped}
use Rattle.chain_owners.proofs.held_laws.owners_count_down.Goals as goal

pub returns-clause-fewer : goal.returns-clause-fewer
returns-clause-fewer c = disowned-fewer

pub returns-clause-last : goal.returns-clause-last
returns-clause-last c = disowned-last

pub returns-clause-stopped : goal.returns-clause-stopped
returns-clause-stopped c = disowned-stopped
