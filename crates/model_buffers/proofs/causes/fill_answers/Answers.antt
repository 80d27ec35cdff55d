use Rattle.model_buffers.specs.declared.edit.BufferEdit.TheVariants.{Fill}
use Rattle.model_buffers.proofs.ExactLaws as exact
use Rattle.model_buffers.proofs.causes.fill_answers.Goals as goal

pub returns-clause-carried_out : goal.returns-clause-carried_out
returns-clause-carried_out c = λ table name rectangle samples. exact.table-carried_out table (Fill name rectangle samples)

pub returns-clause-refused : goal.returns-clause-refused
returns-clause-refused c = λ table name rectangle samples. exact.table-refused table (Fill name rectangle samples)
