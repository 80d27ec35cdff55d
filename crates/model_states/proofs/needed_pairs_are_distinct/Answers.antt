use Rattle.model_states.proofs.NeedLaws as laws
use Rattle.model_states.proofs.needed_pairs_are_distinct.Goals as goal

pub returns : goal.returns
returns g c = laws.need_distinct
