use Rattle.chain_owners.proofs.Ownership.{respects-same}
use Rattle.chain_owners.proofs.owners_laws.no_change_respects.Goals as goal

pub returns : goal.returns
returns c = respects-same
