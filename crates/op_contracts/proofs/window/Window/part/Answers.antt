use Rattle.std.proofs.Common.{◌≡◌, ap, subst, ◌∙◌, sym}
use Rattle.plane_rect.specs.Rectangle.{Includes, InLimits, Rectangle}
use Rattle.model_images.specs.Image.{Image}
use Rattle.model_images.specs.Paint.{cut}
use Rattle.model_graphs.specs.Windows.{Window, window_image}
use Rattle.op_contracts.proofs.Limits.{InLimits-meet}
use Rattle.op_contracts.proofs.Painted.{cut-through}
use Rattle.op_contracts.proofs.window.Window.part.Goals as goal

pub inner_part-requires-2-clause-limits : goal.inner_part-requires-2-clause-limits
inner_part-requires-2-clause-limits c =
    subst InLimits (sym c.meet.ensures.value) (InLimits-meet c.args.rect c.self.inside.bounds c.requires.limits)

pub inner_part-requires-2-clause-inside : goal.inner_part-requires-2-clause-inside
inner_part-requires-2-clause-inside c =
    let bounds : c.self.inside.bounds ≡ c.args.self.now.bounds = ap (λ (w : Window). w.bounds) c.self.view_is in
    subst (λ (box : Rectangle). Includes box c.meet.result) bounds c.meet.ensures.in_other

pub returns : goal.returns
returns c =
    let window = c.args.self.now in
    let rect = c.args.rect in
    let bounds : c.self.inside.bounds ≡ window.bounds = ap (λ (w : Window). w.bounds) c.self.view_is in
    let within : Includes window.bounds c.meet.result = subst (λ (box : Rectangle). Includes box c.meet.result) bounds c.meet.ensures.in_other in
    let whole : cut c.in_ok-inner.inner rect ≡ cut (window_image window) rect =
    ap (λ (image : Image). cut image rect) c.in_ok-inner.ensures
    ∙ cut-through (window_image window) c.meet.result rect within
    (λ u v there inside. (c.meet.ensures.positions u v).1 (there, rw (← bounds) at inside)) in
    rw whole at c.part.ensures
