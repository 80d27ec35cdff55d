use Rattle.std.proofs.Common.{subst}
use Rattle.std.specs.Prelude.{IfSome}
use Rattle.std.specs.Vec.Iter.{into_iter_items}
use Rattle.plane_rect.specs.Tile.{Tile}
use Rattle.root_tiles.specs.Cutting.{IsCut}
use Rattle.root_tiles.proofs.Cut.{first-cut}
use Rattle.root_tiles.proofs.cut_tiles.CutTilesReadyTiles.take.Goals as goal

pub returns-then-eq-clause-cut : goal.returns-then-eq-clause-cut
returns-then-eq-clause-cut g c = λ cutting h.
    let after = first-cut cutting c.args.self.now.raster.now c.refill.new.self.raster.now c.refill.new.self.left c.in-Some.cut (into_iter_items c.refill.new.self.batch)
    (into_iter_items c.next.new.self) h.1 c.in_ok-refill.ensures.raster c.in-Some.ensures.items c.in_ok-refill.ensures.cut in
    (h.0, after.1, after.2)

pub returns-else-eq-clause-cut : goal.returns-else-eq-clause-cut
returns-else-eq-clause-cut g c = λ cutting h.
    let after = first-cut cutting c.args.self.now.raster.now c.refill.new.self.raster.now c.refill.new.self.left c.in-Some.cut (into_iter_items c.refill.new.self.batch)
    (into_iter_items c.next.new.self) h.1 c.in_ok-refill.ensures.raster c.in-Some.ensures.items c.in_ok-refill.ensures.cut in
    (h.0, after.1, after.2)

pub returns-then-eq-clause-ready : goal.returns-then-eq-clause-ready
returns-then-eq-clause-ready g c = λ cutting h.
    let after = first-cut cutting c.args.self.now.raster.now c.refill.new.self.raster.now c.refill.new.self.left c.in-Some.cut (into_iter_items c.refill.new.self.batch)
    (into_iter_items c.next.new.self) h.1 c.in_ok-refill.ensures.raster c.in-Some.ensures.items c.in_ok-refill.ensures.cut in
    subst (λ (at : Tile). IfSome c.in-Some.cut.tile (IsCut cutting at)) (c.eq.ensures.same.0 c.if-eq.true) after.0
