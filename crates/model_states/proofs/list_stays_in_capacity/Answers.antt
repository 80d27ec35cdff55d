use Rattle.model_states.proofs.CacheLaws as laws
use Rattle.model_states.proofs.list_stays_in_capacity.Goals as goal

pub returns : goal.returns
returns g c = laws.stays_in_capacity
