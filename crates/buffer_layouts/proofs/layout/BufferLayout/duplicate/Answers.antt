use Rattle.std.proofs.Common.{sym, subst, ◌∙◌}
use Rattle.model_buffers.specs.declared.edit.BufferEdit.TheVariants.{Duplicate}
use Rattle.model_buffers.specs.Layout.{IsLayout}
use Rattle.buffer_layouts.proofs.Adding.{carried_out, duplicate_is, kept}
use Rattle.buffer_layouts.proofs.layout.BufferLayout.duplicate.Goals as goal

pub add_root-requires-clause-layout : goal.add_root-requires-clause-layout
add_root-requires-clause-layout c =
    let layout = c.args.self.now.layout in
    subst IsLayout (duplicate_is layout c.args.name c.args.from c.in-Some.view (sym c.view.ensures.value ∙ c.in-Some.is))
    (kept layout c.view.ensures.layout (Duplicate c.args.name c.args.from) tt c.requires.carried_out)

pub add_root-requires-clause-new : goal.add_root-requires-clause-new
add_root-requires-clause-new c = (carried_out c.args.self.now.layout (Duplicate c.args.name c.args.from) c.requires.carried_out).1.0

pub returns-in-Some : goal.returns-in-Some
returns-in-Some c =
    c.add_root.ensures ∙ sym (duplicate_is c.args.self.now.layout c.args.name c.args.from c.in-Some.view (sym c.view.ensures.value ∙ c.in-Some.is))
