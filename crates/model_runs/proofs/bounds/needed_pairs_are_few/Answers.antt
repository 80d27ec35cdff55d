use Rattle.model_states.proofs.NeedCounts as laws
use Rattle.model_runs.proofs.bounds.needed_pairs_are_few.Goals as goal

pub returns-clause-strips : goal.returns-clause-strips
returns-clause-strips g c = λ meanings buffers facts node request boxed stated.
    laws.strips_few meanings boxed buffers facts node request stated

pub returns-clause-all : goal.returns-clause-all
returns-clause-all g c = λ meanings buffers facts node request boxed stated limits.
    laws.request_few meanings boxed buffers facts node request stated limits
