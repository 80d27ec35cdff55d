use Rattle.std.proofs.Common.{ap, ◌∙◌}
use Rattle.model_buffers.specs.Layout.{facts_of}
use Rattle.buffer_layouts.proofs.Held.{facts_are}
use Rattle.buffer_layouts.proofs.layout.BufferLayout.facts.Goals as goal

pub returns-clause-facts : goal.returns-clause-facts
returns-clause-facts c =
    c.deref.ensures.value ∙ facts_are c.self.inside.roots.items c.self.inside.facts.items c.self.invariant ∙ ap (λ held. facts_of held.layout) c.self.view_is
