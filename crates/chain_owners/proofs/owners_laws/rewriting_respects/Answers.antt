use Rattle.chain_owners.proofs.Ownership.{rewritten-respects}
use Rattle.chain_owners.proofs.owners_laws.rewriting_respects.Goals as goal

pub returns : goal.returns
returns c = rewritten-respects
