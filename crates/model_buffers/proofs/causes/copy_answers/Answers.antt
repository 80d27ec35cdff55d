use Rattle.model_buffers.specs.declared.edit.BufferEdit.TheVariants.{Copy}
use Rattle.model_buffers.proofs.ExactLaws as exact
use Rattle.model_buffers.proofs.causes.copy_answers.Goals as goal

pub returns-clause-carried_out : goal.returns-clause-carried_out
returns-clause-carried_out c = λ table from to rectangle dx dy. exact.table-carried_out table (Copy from to rectangle dx dy)

pub returns-clause-refused : goal.returns-clause-refused
returns-clause-refused c = λ table from to rectangle dx dy. exact.table-refused table (Copy from to rectangle dx dy)
