use Rattle.chain_owners.proofs.Ownership.{owns-fewer}
use Rattle.chain_owners.proofs.owners_laws.owners_own_fewer.Goals as goal

pub returns : goal.returns
returns c = owns-fewer
