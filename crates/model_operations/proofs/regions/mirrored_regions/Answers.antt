use Rattle.model_operations.specs.Lawful.Sides as laws
use Rattle.model_operations.proofs.regions.mirrored_regions.Goals as goal

pub returns-clause-sideways : goal.returns-clause-sideways
returns-clause-sideways c = laws.mirrored-sideways

pub returns-clause-upright : goal.returns-clause-upright
returns-clause-upright c = laws.mirrored-upright
