use Rattle.model_states.proofs.HistoryLaws as laws
use Rattle.model_states.proofs.redo_appends_one_state.Goals as goal

pub returns : goal.returns
returns g c = laws.redo_appends
