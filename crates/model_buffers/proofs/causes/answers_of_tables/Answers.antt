use Rattle.model_buffers.proofs.ExactLaws as exact
use Rattle.model_buffers.proofs.causes.answers_of_tables.Goals as goal

pub returns-clause-carried_out : goal.returns-clause-carried_out
returns-clause-carried_out c = exact.table-carried_out

pub returns-clause-refused : goal.returns-clause-refused
returns-clause-refused c = exact.table-refused

pub returns-clause-after : goal.returns-clause-after
returns-clause-after c = exact.table-after
