use Rattle.model_states.proofs.CacheLaws as laws
use Rattle.model_states.proofs.pairs_stay_distinct.Goals as goal

pub returns : goal.returns
returns g c = laws.stays_distinct
