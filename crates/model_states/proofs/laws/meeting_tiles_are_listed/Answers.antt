use Rattle.model_states.proofs.Serves as laws
use Rattle.model_states.proofs.laws.meeting_tiles_are_listed.Goals as goal

pub returns : goal.returns
returns c = laws.tiles_contain
