use Rattle.std.proofs.Common.{◌≡◌, IfOk, subst, ap, ◌∙◌}
use Rattle.plane_rect.specs.Rectangle.{Rectangle}
use Rattle.model_images.specs.Image.{Image, at, image_from_fn}
use Rattle.model_images.proofs.Laws.{image_from_fn-at}
use Rattle.plain_images.proofs.picture.Picture.copy.Goals as goal

pub returns : goal.returns
returns c =
    let image = c.args.self.now in
    subst (λ (i : Image). IfOk c.draw.result (λ (p : Image). p ≡ i))
    (ap (λ (box : Rectangle). image_from_fn box image.format (at image)) c.rect.ensures.value ∙ image_from_fn-at image c.rect.ensures.picture.whole)
    c.draw.ensures
