use Rattle.chain_owners.proofs.Ownership.{others-own}
use Rattle.chain_owners.proofs.owners_laws.others_still_own.Goals as goal

pub returns : goal.returns
returns c = λ old new before after others respects. others-own old new before after respects others
