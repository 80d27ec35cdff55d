use Rattle.std.proofs.Common.{subst}
use Rattle.model_buffers.specs.declared.edit.BufferEdit.TheVariants.{Create}
use Rattle.model_buffers.specs.Layout.{IsLayout}
use Rattle.buffer_layouts.specs.Layouts.{RoomyLayout}
use Rattle.buffer_layouts.proofs.Adding.{carried_out, kept}
use Rattle.buffer_layouts.proofs.layout.BufferLayout.create.Goals as goal

pub add_root-requires-clause-layout : goal.add_root-requires-clause-layout
add_root-requires-clause-layout c =
    let is = subst (λ (held : RoomyLayout). IsLayout held.layout) c.self.view_is c.self.invariant.layout in
    kept c.args.self.now.layout is (Create c.args.name c.args.format c.args.extent) (c.first_column.ensures.rectangle, c.requires.limits) c.requires.carried_out

pub add_root-requires-clause-new : goal.add_root-requires-clause-new
add_root-requires-clause-new c = (carried_out c.args.self.now.layout (Create c.args.name c.args.format c.args.extent) c.requires.carried_out).0
