use Rattle.model_images.proofs.RawLaws as laws
use Rattle.model_images.proofs.tiles.raw_bytes_of_samples.Goals as goal

pub returns-clause-samples : goal.returns-clause-samples
returns-clause-samples c = laws.raw-samples

pub returns-clause-zeros : goal.returns-clause-zeros
returns-clause-zeros c = laws.raw-zeros

pub returns-clause-outside : goal.returns-clause-outside
returns-clause-outside c = laws.tile-outside
