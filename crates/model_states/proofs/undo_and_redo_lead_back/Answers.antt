use Rattle.model_states.proofs.RetainedLaws as laws
use Rattle.model_states.proofs.undo_and_redo_lead_back.Goals as goal

pub returns-clause-undone : goal.returns-clause-undone
returns-clause-undone g c = laws.undo_reverts

pub returns-clause-redone : goal.returns-clause-redone
returns-clause-redone g c = laws.redo_repeats
