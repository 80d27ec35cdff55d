use Rattle.model_images.proofs.Sides as laws
use Rattle.model_images.proofs.policies.nearest_in_a_row.Goals as goal

pub returns-clause-within : goal.returns-clause-within
returns-clause-within c = laws.nearest-within

pub returns-clause-stays : goal.returns-clause-stays
returns-clause-stays c = laws.nearest-inside

pub returns-clause-minimum : goal.returns-clause-minimum
returns-clause-minimum c = laws.nearest-minimum
