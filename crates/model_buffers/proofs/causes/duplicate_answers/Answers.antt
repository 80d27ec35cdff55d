use Rattle.model_buffers.specs.declared.edit.BufferEdit.TheVariants.{Duplicate}
use Rattle.model_buffers.proofs.ExactLaws as exact
use Rattle.model_buffers.proofs.causes.duplicate_answers.Goals as goal

pub returns-clause-carried_out : goal.returns-clause-carried_out
returns-clause-carried_out c = λ table name from. exact.table-carried_out table (Duplicate name from)

pub returns-clause-refused : goal.returns-clause-refused
returns-clause-refused c = λ table name from. exact.table-refused table (Duplicate name from)
