use Rattle.model_buffers.specs.declared.edit.BufferEdit.TheVariants.{Put}
use Rattle.model_buffers.proofs.ExactLaws as exact
use Rattle.model_buffers.proofs.causes.put_answers.Goals as goal

pub returns-clause-carried_out : goal.returns-clause-carried_out
returns-clause-carried_out c = λ table name rectangle bytes. exact.table-carried_out table (Put name rectangle bytes)

pub returns-clause-refused : goal.returns-clause-refused
returns-clause-refused c = λ table name rectangle bytes. exact.table-refused table (Put name rectangle bytes)
