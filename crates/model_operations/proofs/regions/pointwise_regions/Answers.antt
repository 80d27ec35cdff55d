use Rattle.model_operations.proofs.RegionLaws as laws
use Rattle.model_operations.proofs.regions.pointwise_regions.Goals as goal

pub returns-clause-required : goal.returns-clause-required
returns-clause-required c = laws.required-pointwise

pub returns-clause-invalidated : goal.returns-clause-invalidated
returns-clause-invalidated c = laws.invalidated-pointwise
