use Rattle.model_buffers.proofs.ExactLaws as exact
use Rattle.model_buffers.proofs.causes.answers_by_layout.Goals as goal

pub returns-clause-carried_out : goal.returns-clause-carried_out
returns-clause-carried_out c = exact.carried_out

pub returns-clause-refused : goal.returns-clause-refused
returns-clause-refused c = exact.refused
