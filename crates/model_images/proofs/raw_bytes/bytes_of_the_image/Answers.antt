use Rattle.model_images.proofs.ByteLaws as laws
use Rattle.model_images.proofs.raw_bytes.bytes_of_the_image.Goals as goal

pub returns-clause-none : goal.returns-clause-none
returns-clause-none c = laws.raw_with-none

pub returns-clause-inside : goal.returns-clause-inside
returns-clause-inside c = laws.raw_with-inside

pub returns-clause-generated : goal.returns-clause-generated
returns-clause-generated c = laws.raw-image_from_fn
