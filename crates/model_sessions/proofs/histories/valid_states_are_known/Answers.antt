use Rattle.model_sessions.proofs.Steps as laws
use Rattle.model_sessions.proofs.histories.valid_states_are_known.Goals as goal

pub returns-clause-scene : goal.returns-clause-scene
returns-clause-scene g c = laws.valid_scene

pub returns-clause-side : goal.returns-clause-side
returns-clause-side g c = laws.valid_side
