use Rattle.model_states.proofs.RetainedLaws as laws
use Rattle.model_states.proofs.retained_states_stay_few.Goals as goal

pub returns-clause-commit : goal.returns-clause-commit
returns-clause-commit g c = laws.commit_few

pub returns-clause-undo : goal.returns-clause-undo
returns-clause-undo g c = laws.undo_few

pub returns-clause-redo : goal.returns-clause-redo
returns-clause-redo g c = laws.redo_few
