use Rattle.model_buffers.proofs.SharingLaws as laws
use Rattle.model_buffers.proofs.sharing.sub_buffer_shares_samples.Goals as goal

pub returns-clause-of_parent : goal.returns-clause-of_parent
returns-clause-of_parent c = λ table name parent part is rectangle. laws.shows-parent table is name parent part

pub returns-clause-of_part : goal.returns-clause-of_part
returns-clause-of_part c = λ table name parent part is rectangle. laws.shows-part table is name parent part
