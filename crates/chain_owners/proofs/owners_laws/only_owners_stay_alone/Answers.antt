use Rattle.chain_owners.proofs.Ownership.{alone-stays}
use Rattle.chain_owners.proofs.owners_laws.only_owners_stay_alone.Goals as goal

pub returns : goal.returns
returns c = λ old new before after others name respects owns. alone-stays old new before after respects others owns name
