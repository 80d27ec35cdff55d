use Rattle.model_runs.proofs.RunCounts as laws
use Rattle.model_runs.proofs.bounds.counts_stay_below.Goals as goal

pub returns-clause-each : goal.returns-clause-each
returns-clause-each c = laws.each_true

pub returns-clause-last : goal.returns-clause-last
returns-clause-last c = laws.last_true
