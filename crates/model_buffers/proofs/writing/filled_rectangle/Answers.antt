use Rattle.model_buffers.proofs.EffectLaws as laws
use Rattle.model_buffers.proofs.writing.filled_rectangle.Goals as goal

pub returns : goal.returns
returns c = λ table name rectangle samples is. laws.filled-images table is name rectangle samples
