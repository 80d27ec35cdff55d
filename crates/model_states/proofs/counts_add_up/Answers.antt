use Rattle.model_states.proofs.CacheLaws as laws
use Rattle.model_states.proofs.counts_add_up.Goals as goal

pub returns : goal.returns
returns g c = laws.counts_add_up
