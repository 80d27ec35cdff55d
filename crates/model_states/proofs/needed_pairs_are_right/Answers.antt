use Rattle.model_states.proofs.NeededRight as laws
use Rattle.model_states.proofs.needed_pairs_are_right.Goals as goal

pub returns : goal.returns
returns g c = laws.need_right
