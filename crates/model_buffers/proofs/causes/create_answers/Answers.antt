use Rattle.model_buffers.specs.declared.edit.BufferEdit.TheVariants.{Create}
use Rattle.model_buffers.proofs.ExactLaws as exact
use Rattle.model_buffers.proofs.causes.create_answers.Goals as goal

pub returns-clause-carried_out : goal.returns-clause-carried_out
returns-clause-carried_out c = λ table name format extent. exact.table-carried_out table (Create name format extent)

pub returns-clause-refused : goal.returns-clause-refused
returns-clause-refused c = λ table name format extent. exact.table-refused table (Create name format extent)
