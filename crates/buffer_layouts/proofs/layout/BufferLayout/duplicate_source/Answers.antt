use Rattle.std.proofs.Common.{refl, sym, ◌∙◌}
use Rattle.plane_rect.specs.Rectangle.{empty}
use Rattle.pixel_formats.specs.declared.format.Format.TheVariants.{Y8}
use Rattle.model_buffers.specs.BufferEdit.{add_refused}
use Rattle.buffer_layouts.proofs.Answering.{target-known, target-unknown}
use Rattle.buffer_layouts.proofs.layout.BufferLayout.duplicate_source.Goals as goal

pub returns-in-Some : goal.returns-in-Some
returns-in-Some c =
    target-known (λ shape. add_refused c.args.self.now.layout c.args.name) refl (sym c.view.ensures.value ∙ c.in-Some.is)
    (c.create_refused.ensures Y8 empty) c.unless_refused.ensures.view c.unless_refused.ensures.refused

pub returns-in-None : goal.returns-in-None
returns-in-None c = target-unknown (λ shape. add_refused c.args.self.now.layout c.args.name) refl (sym c.view.ensures.value ∙ c.in-None.is)
