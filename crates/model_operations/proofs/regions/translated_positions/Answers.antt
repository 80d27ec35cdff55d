use Rattle.model_operations.specs.Lawful.Reaching as laws
use Rattle.model_operations.proofs.regions.translated_positions.Goals as goal

pub returns : goal.returns
returns c = laws.translated-shows
