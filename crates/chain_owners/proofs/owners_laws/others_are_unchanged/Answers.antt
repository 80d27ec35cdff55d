use Rattle.chain_owners.proofs.Ownership.{seen-unchanged}
use Rattle.chain_owners.proofs.owners_laws.others_are_unchanged.Goals as goal

pub returns : goal.returns
returns g c = λ old new before after others seen framed respects. seen-unchanged old new before after respects others seen framed
