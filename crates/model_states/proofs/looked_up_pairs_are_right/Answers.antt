use Rattle.model_states.proofs.Renders as laws
use Rattle.model_states.proofs.looked_up_pairs_are_right.Goals as goal

pub returns : goal.returns
returns g c = laws.render_leaves_right
