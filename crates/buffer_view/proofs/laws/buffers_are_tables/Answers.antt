use Rattle.buffer_view.proofs.Tables.{known-exposed, known-layout, known-table}
use Rattle.buffer_view.proofs.laws.buffers_are_tables.Goals as goal

pub returns-clause-layout : goal.returns-clause-layout
returns-clause-layout c = known-layout

pub returns-clause-table : goal.returns-clause-table
returns-clause-table c = known-table

pub returns-clause-known : goal.returns-clause-known
returns-clause-known c = known-exposed
