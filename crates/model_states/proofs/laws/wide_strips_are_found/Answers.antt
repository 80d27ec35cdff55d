use Rattle.model_states.proofs.Wide as laws
use Rattle.model_states.proofs.laws.wide_strips_are_found.Goals as goal

pub returns : goal.returns
returns c = laws.wide_none
