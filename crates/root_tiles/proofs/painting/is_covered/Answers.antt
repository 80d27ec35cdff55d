use Rattle.std.proofs.Common.{subst, sym}
use Rattle.plane_rect.specs.Rectangle.{Inside}
use Rattle.root_tiles.proofs.painting.is_covered.Goals as goal

pub returns : goal.returns
returns c = λ is whole u v there inside.
    c.contains.ensures.positions.0 is u v
    ((c.meet.ensures.positions u v).1 (subst (Inside u v) (sym (c.rect.ensures.whole whole)) there, inside))
