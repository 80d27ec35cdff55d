use Rattle.model_buffers.proofs.SeenLaws as laws
use Rattle.model_buffers.proofs.tables.images_are_kept.Goals as goal

pub returns-clause-whole : goal.returns-clause-whole
returns-clause-whole c = λ table name is. laws.IsImage-image_of table name

pub returns-clause-shape : goal.returns-clause-shape
returns-clause-shape c = λ table name is. laws.IsValidShape-image_of table is name
