use Rattle.model_states.proofs.Serves as laws
use Rattle.model_states.proofs.laws.needs_serve_themselves.Goals as goal

pub returns : goal.returns
returns g c = laws.need_serves
