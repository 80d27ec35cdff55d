use Rattle.model_buffers.proofs.HeldLaws as laws
use Rattle.model_buffers.proofs.held.held_tables.Goals as goal

pub returns-clause-layout : goal.returns-clause-layout
returns-clause-layout c = laws.held-layout

pub returns-clause-table : goal.returns-clause-table
returns-clause-table c = laws.held-table

pub returns-clause-root : goal.returns-clause-root
returns-clause-root c = laws.held-root

pub returns-clause-buffer : goal.returns-clause-buffer
returns-clause-buffer c = laws.held-buffer
