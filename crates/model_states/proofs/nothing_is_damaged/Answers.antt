use Rattle.model_states.proofs.Steady as laws
use Rattle.model_states.proofs.nothing_is_damaged.Goals as goal

pub returns : goal.returns
returns g c = laws.nothing_damaged
