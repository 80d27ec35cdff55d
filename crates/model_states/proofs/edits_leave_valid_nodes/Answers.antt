use Rattle.model_states.proofs.EditLaws as laws
use Rattle.model_states.proofs.edits_leave_valid_nodes.Goals as goal

pub returns : goal.returns
returns g c = laws.edits_leave_valid
