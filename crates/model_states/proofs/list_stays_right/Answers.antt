use Rattle.model_states.proofs.RightPairs as laws
use Rattle.model_states.proofs.list_stays_right.Goals as goal

pub returns : goal.returns
returns g c = λ same meanings change old new list keeps apart valid right. laws.stay_right same meanings change old new keeps apart valid list right
