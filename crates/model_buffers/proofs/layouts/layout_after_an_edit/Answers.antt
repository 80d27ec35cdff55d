use Rattle.model_buffers.proofs.ShapeLaws as laws
use Rattle.model_buffers.proofs.layouts.layout_after_an_edit.Goals as goal

pub returns-clause-table : goal.returns-clause-table
returns-clause-table c = laws.layout-with

pub returns-clause-edited : goal.returns-clause-edited
returns-clause-edited c = laws.layout-edited
