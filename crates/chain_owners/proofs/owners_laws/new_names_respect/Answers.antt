use Rattle.chain_owners.proofs.Ownership.{new_name-respects}
use Rattle.chain_owners.proofs.owners_laws.new_names_respect.Goals as goal

pub returns : goal.returns
returns c = new_name-respects
