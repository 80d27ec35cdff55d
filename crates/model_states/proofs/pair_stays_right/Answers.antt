use Rattle.model_states.proofs.RightPairs as laws
use Rattle.model_states.proofs.pair_stays_right.Goals as goal

pub returns : goal.returns
returns g c = λ same meanings change old new cached keeps apart valid outside right. laws.stays_right same meanings change old new keeps apart valid cached outside right
