use Rattle.chain_owners.proofs.Ownership.{times-append}
use Rattle.chain_owners.proofs.owners_laws.times_add_up.Goals as goal

pub returns : goal.returns
returns c = times-append
