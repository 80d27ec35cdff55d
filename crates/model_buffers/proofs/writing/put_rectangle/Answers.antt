use Rattle.model_buffers.proofs.EffectLaws as laws
use Rattle.model_buffers.proofs.writing.put_rectangle.Goals as goal

pub returns : goal.returns
returns c = λ table name rectangle bytes is. laws.put-images table is name rectangle bytes
