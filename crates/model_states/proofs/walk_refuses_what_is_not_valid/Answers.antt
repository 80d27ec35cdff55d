use Rattle.model_states.proofs.Walks as laws
use Rattle.model_states.proofs.walk_refuses_what_is_not_valid.Goals as goal

pub returns : goal.returns
returns g c = laws.walk_refuses
