use Rattle.std.proofs.Common.{ap}
use Rattle.buffer_layouts.specs.Layouts.{RoomyLayout}
use Rattle.buffer_layouts.proofs.Adding.{root_after, root_kept}
use Rattle.buffer_layouts.proofs.layout.BufferLayout.add_root.Goals as goal

pub invariant_of-self : goal.invariant_of-self
invariant_of-self c =
    root_kept c.self.inside.roots.items c.self.inside.facts.items c.self.invariant c.args.self.now.layout (ap (λ (held : RoomyLayout). held.layout) c.self.view_is)
    c.args.name c.args.bounds c.args.extent c.args.format c.push_reserved.new.self.items c.push_reserved-2.new.self.items
    c.push_reserved.ensures.items c.push_reserved-2.ensures.items c.requires.layout c.requires.new

pub returns : goal.returns
returns c =
    root_after c.self.inside.roots.items c.self.inside.facts.items c.self.invariant c.args.self.now.layout (ap (λ (held : RoomyLayout). held.layout) c.self.view_is)
    c.args.name c.args.bounds c.args.extent c.args.format c.push_reserved.new.self.items c.push_reserved-2.new.self.items
    c.push_reserved.ensures.items c.push_reserved-2.ensures.items
