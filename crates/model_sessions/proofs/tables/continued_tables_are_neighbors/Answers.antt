use Rattle.model_sessions.proofs.Sources as laws
use Rattle.model_sessions.proofs.tables.continued_tables_are_neighbors.Goals as goal

pub returns-clause-on : goal.returns-clause-on
returns-clause-on c = laws.neighbors

pub returns-clause-back : goal.returns-clause-back
returns-clause-back c = laws.neighbors-back
