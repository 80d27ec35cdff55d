use Rattle.model_states.proofs.Written as laws
use Rattle.model_states.proofs.written_rectangles_grow.Goals as goal

pub returns-clause-own : goal.returns-clause-own
returns-clause-own c = laws.written-own

pub returns-clause-others : goal.returns-clause-others
returns-clause-others c = laws.written-other
