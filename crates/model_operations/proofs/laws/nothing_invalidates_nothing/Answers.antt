use Rattle.model_operations.specs.Lawful.MeaningLaws.{keeps_nothing}
use Rattle.model_operations.proofs.laws.nothing_invalidates_nothing.Goals as goal

pub returns : goal.returns
returns c = keeps_nothing
