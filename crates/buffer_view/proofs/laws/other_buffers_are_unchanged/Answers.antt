use Rattle.buffer_view.proofs.Tables.{over-beside, table-beside}
use Rattle.buffer_view.proofs.laws.other_buffers_are_unchanged.Goals as goal

pub returns-clause-table : goal.returns-clause-table
returns-clause-table c = table-beside

pub returns-clause-over : goal.returns-clause-over
returns-clause-over c = over-beside
