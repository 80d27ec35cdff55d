use Rattle.std.proofs.Common.{subst, sym}
use Rattle.plane_rect.specs.Rectangle.{IsRectangle}
use Rattle.view_reads.proofs.Cuts.{limits-part, meet-is}
use Rattle.view_reads.proofs.ViewTiles.{part-cut, part-same}
use Rattle.view_reads.proofs.levels.first_part.Goals as goal

pub part-requires-clause-inside : goal.part-requires-clause-inside
part-requires-clause-inside g c = λ u v there. c.requires.view.inside u v (c.meet-shared.ensures.in_this u v there)

pub part-requires-clause-limits : goal.part-requires-clause-limits
part-requires-clause-limits g c =
    limits-part c.args.rect c.meet-shared.result
    (subst IsRectangle (sym c.meet-shared.ensures.value) (meet-is c.args.extent c.args.rect c.requires.view.rectangle))
    c.meet-shared.ensures.in_other c.requires.limits

pub returns-then-eq-clause-image : goal.returns-then-eq-clause-image
returns-then-eq-clause-image g c =
    part-same c.args.root.now c.args.extent (g.C.ChainMeaning.held c.args.chain.now) c.requires.view.over c.requires.view.inside c.requires.view.rectangle
    c.args.rect c.meet-shared.result c.in_ok-part.part c.meet-shared.ensures.value (c.eq.ensures.same.0 c.if-eq.true) c.in_ok-part.ensures.image

pub returns-clause-image : goal.returns-clause-image
returns-clause-image g c =
    part-cut c.args.root.now c.args.extent (g.C.ChainMeaning.held c.args.chain.now) c.requires.view.over c.requires.view.inside c.requires.view.rectangle
    c.args.rect c.meet-shared.result c.in_ok-part.part c.in_ok-part-2.field-0 c.meet-shared.ensures.value c.in_ok-part.ensures.image c.in_ok-part-2.ensures
