use Rattle.std.proofs.Common.{ap, ◌∙◌}
use Rattle.model_graphs.specs.Shapes.{Shape}
use Rattle.buffer_layouts.specs.Views.{shape_at}
use Rattle.buffer_layouts.proofs.Rooted.{shape_numbered}
use Rattle.buffer_layouts.proofs.layout.BufferLayout.view_of.Goals as goal

pub returns-clause-bounds : goal.returns-clause-bounds
returns-clause-bounds c =
    c.bounds_of.ensures ∙ ap (λ number. (shape_at c.args.self.now.layout number).box) c.root_number-root.ensures
    ∙ ap (λ (shape : Shape). shape.box) (shape_numbered c.args.self.now.layout c.args.fact.now.root)
