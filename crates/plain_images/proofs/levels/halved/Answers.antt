use Rattle.std.proofs.Common.{sym, subst, ap, ◌∙◌}
use Rattle.plane_rect.specs.Rectangle.{InLimits, Rectangle, halved}
use Rattle.plain_images.proofs.Pictures.{InLimits-half}
use Rattle.plain_images.proofs.levels.halved.Goals as goal

pub draw-requires-clause-limits : goal.draw-requires-clause-limits
draw-requires-clause-limits c =
    subst (λ (r : Rectangle). InLimits r) (sym (c.halved.ensures.value ∙ ap halved c.rect.ensures.value)) (InLimits-half c.args.picture.now c.rect.ensures.picture)
