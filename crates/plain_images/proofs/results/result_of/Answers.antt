use Rattle.std.proofs.Common.{◌∙◌, ap, subst, sym, unwrap_or}
use Rattle.plane_rect.specs.Rectangle.{InLimits, Rectangle, empty}
use Rattle.model_operations.proofs.BoxLaws.{box-limits}
use Rattle.model_operations.specs.Boxes.{box_of}
use Rattle.plain_images.proofs.OperationSamples.{InLimits-or_empty}
use Rattle.plain_images.proofs.results.result_of.Goals as goal

pub draw-requires-clause-limits : goal.draw-requires-clause-limits
draw-requires-clause-limits c =
    let op = c.args.op.now in
    let boxes = c.deref-2.result.now in
    subst (λ (r : Rectangle). InLimits r) (sym (c.unwrap_or-rect.ensures ∙ ap (λ made. unwrap_or made empty) c.box_of.ensures))
    (InLimits-or_empty (box_of op boxes) (λ box stated. box-limits op boxes box stated))
