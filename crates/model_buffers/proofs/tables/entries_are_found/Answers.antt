use Rattle.model_buffers.proofs.FindLaws as laws
use Rattle.model_buffers.proofs.SeenLaws.{AreDistinct-roots}
use Rattle.model_buffers.proofs.tables.entries_are_found.Goals as goal

pub returns-clause-buffers : goal.returns-clause-buffers
returns-clause-buffers c = λ layout i d is h. laws.find-listed layout.buffers is.buffer_names i d h

pub returns-clause-roots : goal.returns-clause-roots
returns-clause-roots c = λ table i d is h. laws.find-listed table.roots (AreDistinct-roots table is) i d h
