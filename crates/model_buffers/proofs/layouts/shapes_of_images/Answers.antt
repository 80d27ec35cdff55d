use Rattle.model_buffers.proofs.ShapeLaws as laws
use Rattle.model_buffers.proofs.layouts.shapes_of_images.Goals as goal

pub returns-clause-buffer : goal.returns-clause-buffer
returns-clause-buffer c = laws.buffer_shape-is

pub returns-clause-root : goal.returns-clause-root
returns-clause-root c = laws.root_shape-is
