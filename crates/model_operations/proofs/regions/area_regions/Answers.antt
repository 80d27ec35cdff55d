use Rattle.model_operations.proofs.RegionLaws as laws
use Rattle.model_operations.proofs.regions.area_regions.Goals as goal

pub returns-clause-surrounded : goal.returns-clause-surrounded
returns-clause-surrounded c = laws.surrounded-positions

pub returns-clause-moved_into : goal.returns-clause-moved_into
returns-clause-moved_into c = laws.moved_into-positions
