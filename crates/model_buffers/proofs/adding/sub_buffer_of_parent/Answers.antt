use Rattle.model_buffers.proofs.EffectLaws as laws
use Rattle.model_buffers.proofs.adding.sub_buffer_of_parent.Goals as goal

pub returns-clause-image : goal.returns-clause-image
returns-clause-image c = λ table name parent rectangle is. laws.sub_buffer-image table is name parent rectangle

pub returns-clause-root : goal.returns-clause-root
returns-clause-root c = λ table name parent rectangle is. laws.sub_buffer-root table is name parent rectangle
