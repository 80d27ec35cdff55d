use Rattle.buffer_layouts.proofs.layout.BufferLayout.fact.Goals as goal

pub returns-clause-layout : goal.returns-clause-layout
returns-clause-layout c = c.facts.ensures.layout
