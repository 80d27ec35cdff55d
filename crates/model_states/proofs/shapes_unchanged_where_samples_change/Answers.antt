use Rattle.model_states.proofs.Shapes as laws
use Rattle.model_states.proofs.shapes_unchanged_where_samples_change.Goals as goal

pub returns : goal.returns
returns g c = laws.shapes_unchanged
