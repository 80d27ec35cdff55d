use Rattle.buffer_view.proofs.Refusals.{added-cause}
use Rattle.buffer_view.proofs.laws.added_buffers_have_causes.Goals as goal

pub returns : goal.returns
returns c = added-cause
