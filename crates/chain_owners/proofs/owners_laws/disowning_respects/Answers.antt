use Rattle.chain_owners.proofs.Ownership.{disowned-respects}
use Rattle.chain_owners.proofs.owners_laws.disowning_respects.Goals as goal

pub returns : goal.returns
returns c = disowned-respects
