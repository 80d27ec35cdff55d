use Rattle.model_operations.proofs.WindowLaws as laws
use Rattle.model_operations.proofs.windows.max_of_samples.Goals as goal

pub returns-clause-among : goal.returns-clause-among
returns-clause-among c = laws.max_sample-among

pub returns-clause-bound : goal.returns-clause-bound
returns-clause-bound c = laws.max_sample-above
