use Rattle.model_buffers.proofs.EffectLaws as laws
use Rattle.model_buffers.proofs.adding.duplicated_buffer.Goals as goal

pub returns-clause-image : goal.returns-clause-image
returns-clause-image c = λ table name from is. laws.duplicated-image table is name from

pub returns-clause-root : goal.returns-clause-root
returns-clause-root c = λ table name from is. laws.duplicated-root table is name from
