use Rattle.model_buffers.proofs.EffectLaws as laws
use Rattle.model_buffers.proofs.SeenLaws.{IsTable-no_buffers}
use Rattle.model_buffers.proofs.tables.edits_keep_tables.Goals as goal

pub returns-clause-first : goal.returns-clause-first
returns-clause-first c = IsTable-no_buffers

pub returns-clause-edited : goal.returns-clause-edited
returns-clause-edited c = λ table edit is. laws.edited-table table is edit
