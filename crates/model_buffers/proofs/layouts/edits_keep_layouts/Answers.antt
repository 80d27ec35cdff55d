use Rattle.model_buffers.proofs.ExactLaws.{carried_out}
use Rattle.model_buffers.proofs.LayoutLaws.{edit-keeps}
use Rattle.model_buffers.proofs.layouts.edits_keep_layouts.Goals as goal

pub returns : goal.returns
returns c = λ layout edit is proper none. edit-keeps layout is edit proper ((carried_out layout edit).0 none)
