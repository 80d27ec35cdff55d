use Rattle.model_sessions.proofs.Steps as laws
use Rattle.model_sessions.proofs.histories.steps_keep_histories.Goals as goal

pub returns-clause-one : goal.returns-clause-one
returns-clause-one g c = laws.step_keeps

pub returns-clause-all : goal.returns-clause-all
returns-clause-all g c = laws.made_keeps
