use Rattle.model_buffers.specs.declared.edit.BufferEdit.TheVariants.{Sub}
use Rattle.model_buffers.proofs.ExactLaws as exact
use Rattle.model_buffers.proofs.causes.sub_buffer_answers.Goals as goal

pub returns-clause-carried_out : goal.returns-clause-carried_out
returns-clause-carried_out c = λ table name parent rectangle. exact.table-carried_out table (Sub name parent rectangle)

pub returns-clause-refused : goal.returns-clause-refused
returns-clause-refused c = λ table name parent rectangle. exact.table-refused table (Sub name parent rectangle)
