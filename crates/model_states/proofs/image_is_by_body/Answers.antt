use Rattle.model_states.proofs.Unrolled as laws
use Rattle.model_states.proofs.image_is_by_body.Goals as goal

pub returns : goal.returns
returns g c = laws.image_by_body
