use Rattle.model_buffers.proofs.EffectLaws as laws
use Rattle.model_buffers.proofs.MoveLaws as moves
use Rattle.model_buffers.proofs.writing.copied_rectangle.Goals as goal

pub returns-clause-moved : goal.returns-clause-moved
returns-clause-moved c = λ table from to rectangle moved dx dy is. laws.copied-images table is from to rectangle moved dx dy

pub returns-clause-position : goal.returns-clause-position
returns-clause-position c = λ table from to rectangle dx dy u v moved_u moved_v c is. moves.copied-position table is from to rectangle dx dy u v moved_u moved_v c
