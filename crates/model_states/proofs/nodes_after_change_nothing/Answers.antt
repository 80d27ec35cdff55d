use Rattle.model_states.proofs.PrefixLaws as laws
use Rattle.model_states.proofs.nodes_after_change_nothing.Goals as goal

pub returns : goal.returns
returns g c = laws.nodes_after
