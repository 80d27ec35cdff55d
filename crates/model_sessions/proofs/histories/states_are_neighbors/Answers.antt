use Rattle.model_sessions.proofs.Steps as laws
use Rattle.model_sessions.proofs.histories.states_are_neighbors.Goals as goal

pub returns : goal.returns
returns g c = λ meanings steps proper. (laws.made_keeps meanings steps proper).in_turn
