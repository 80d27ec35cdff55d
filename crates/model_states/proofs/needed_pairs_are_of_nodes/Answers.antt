use Rattle.model_states.proofs.NeededRight as laws
use Rattle.model_states.proofs.needed_pairs_are_of_nodes.Goals as goal

pub returns : goal.returns
returns g c = laws.need_pairs
