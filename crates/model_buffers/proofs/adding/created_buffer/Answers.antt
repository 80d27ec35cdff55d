use Rattle.model_buffers.proofs.EffectLaws as laws
use Rattle.model_buffers.proofs.adding.created_buffer.Goals as goal

pub returns-clause-image : goal.returns-clause-image
returns-clause-image c = λ table name format extent is. laws.created-image table is name format extent

pub returns-clause-root : goal.returns-clause-root
returns-clause-root c = λ table name format extent is. laws.created-root table is name format extent
