use Rattle.model_sessions.proofs.Continuing as laws
use Rattle.model_sessions.proofs.tables.edits_continue_tables.Goals as goal

pub returns-clause-table : goal.returns-clause-table
returns-clause-table c = laws.edit-table

pub returns-clause-buffers : goal.returns-clause-buffers
returns-clause-buffers c = laws.edit-continues
