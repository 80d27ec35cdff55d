use Rattle.model_states.proofs.CacheLaws as laws
use Rattle.model_states.proofs.pairs_need_no_bytes.Goals as goal

pub returns : goal.returns
returns g c = laws.pairs_alone
