use Rattle.chain_owners.proofs.Ownership.{others-unchanged}
use Rattle.chain_owners.proofs.owners_laws.others_keep_bytes.Goals as goal

pub returns : goal.returns
returns c = λ old new before after others respects. others-unchanged old new before after respects others
