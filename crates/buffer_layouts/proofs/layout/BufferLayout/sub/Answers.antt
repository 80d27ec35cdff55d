use Rattle.std.proofs.Common.{ap, sym, ◌∙◌}
use Rattle.buffer_layouts.specs.Layouts.{RoomyLayout}
use Rattle.buffer_layouts.proofs.Adding.{part_after, part_kept, part_of_none}
use Rattle.buffer_layouts.proofs.layout.BufferLayout.sub.Goals as goal

pub invariant_of-self : goal.invariant_of-self
invariant_of-self c =
    part_kept c.self.inside.roots.items c.self.inside.facts.items c.self.invariant c.args.self.now.layout (ap (λ (held : RoomyLayout). held.layout) c.self.view_is)
    c.args.name c.args.parent c.args.rect c.in-Some.fact (sym c.fact.ensures.value ∙ c.in-Some.is) c.push_reserved.new.self.items
    (rw c.meet.ensures.value at c.push_reserved.ensures.items) c.first_column.ensures.rectangle c.requires.carried_out

pub returns-in-Some : goal.returns-in-Some
returns-in-Some c =
    part_after c.self.inside.roots.items c.self.inside.facts.items c.self.invariant c.args.self.now.layout (ap (λ (held : RoomyLayout). held.layout) c.self.view_is)
    c.args.name c.args.parent c.args.rect c.in-Some.fact (sym c.fact.ensures.value ∙ c.in-Some.is) c.push_reserved.new.self.items
    (rw c.meet.ensures.value at c.push_reserved.ensures.items)

pub returns-in_default : goal.returns-in_default
returns-in_default c = part_of_none c.args.self.now.layout c.args.name c.args.parent c.args.rect (sym c.fact.ensures.value ∙ c.in_default.is)
