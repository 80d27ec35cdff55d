use Rattle.std.proofs.Common.{sym, ◌∙◌}
use Rattle.plane_rect.specs.Rectangle.{empty}
use Rattle.pixel_formats.specs.declared.format.Format.TheVariants.{Y8}
use Rattle.model_buffers.specs.BufferEdit.{add_refused}
use Rattle.buffer_layouts.proofs.Answering.{refused_by_fact, refused_without_fact}
use Rattle.buffer_layouts.proofs.layout.BufferLayout.sub_refused.Goals as goal

pub returns-in-Some : goal.returns-in-Some
returns-in-Some c =
    let layout = c.args.self.now.layout in
    let is = sym c.fact.ensures.value ∙ c.in-Some.is in
    λ rect. c.create_refused.ensures Y8 empty ∙ sym (refused_by_fact layout c.args.parent c.in-Some.field-0 (add_refused layout c.args.name) is)

pub returns-in-None : goal.returns-in-None
returns-in-None c =
    let layout = c.args.self.now.layout in
    λ rect. sym (refused_without_fact layout c.args.parent (λ view. add_refused layout c.args.name) (sym c.fact.ensures.value ∙ c.in-None.is))
