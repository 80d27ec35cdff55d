use Rattle.std.proofs.Common.{sym, ◌∙◌}
use Rattle.buffer_layouts.proofs.Answering.{no_view_by_fact, view_by_fact}
use Rattle.buffer_layouts.proofs.layout.BufferLayout.view.Goals as goal

pub returns-in-Some-clause-value : goal.returns-in-Some-clause-value
returns-in-Some-clause-value c =
    view_by_fact c.args.self.now.layout c.args.name c.in-Some.fact c.view_of.result (sym c.fact.ensures.value ∙ c.in-Some.is)
    c.view_of.ensures.root c.view_of.ensures.bounds c.view_of.ensures.format c.view_of.ensures.extent

pub returns-in-None-clause-value : goal.returns-in-None-clause-value
returns-in-None-clause-value c = no_view_by_fact c.args.self.now.layout c.args.name (sym c.fact.ensures.value ∙ c.in-None.is)

pub returns-in-Some-clause-layout : goal.returns-in-Some-clause-layout
returns-in-Some-clause-layout c = c.fact.ensures.layout

pub returns-in-None-clause-layout : goal.returns-in-None-clause-layout
returns-in-None-clause-layout c = c.fact.ensures.layout
