use Rattle.model_states.proofs.HistoryLaws as laws
use Rattle.model_states.proofs.undo_reverts_commit.Goals as goal

pub returns : goal.returns
returns g c = laws.undo_reverts
