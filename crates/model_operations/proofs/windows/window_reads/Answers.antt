use Rattle.model_operations.proofs.WindowLaws as laws
use Rattle.model_operations.proofs.windows.window_reads.Goals as goal

pub returns-clause-count : goal.returns-clause-count
returns-clause-count c = laws.length-window

pub returns-clause-sample : goal.returns-clause-sample
returns-clause-sample c = laws.window-sample

pub returns-clause-position : goal.returns-clause-position
returns-clause-position c = laws.read_before-position
