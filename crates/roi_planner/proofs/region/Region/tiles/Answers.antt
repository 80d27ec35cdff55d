use Rattle.std.proofs.Common.{◌≡◌, length, ap, sym, ◌∙◌, subst, arith}
use Rattle.std.specs.Prelude.{Contains}
use Rattle.plane_rect.specs.Rectangle.{Rectangle}
use Rattle.plane_rect.specs.Tile.{Meets, Tile, tiles}
use Rattle.model_states.specs.Regions.{hull_of}
use Rattle.roi_planner.proofs.Joined.{only-tiles}
use Rattle.roi_planner.proofs.region.Region.tiles.Goals as goal

pub returns-then-len-eq1 : goal.returns-then-len-eq1
returns-then-len-eq1 c =
    let rects = c.args.self.now in
    let hull : c.hull_of-hull.result ≡ hull_of rects = c.hull_of-hull.ensures ∙ ap hull_of (c.deref.ensures.value ∙ c.self.view_is) in
    let count : length c.self.inside.rects.items ≡ 1 = omega arith in
    let one : length rects ≡ 1 = ap length (sym c.self.view_is) ∙ count in
    let meeting : (tile : Tile) → Contains (tiles (hull_of rects)) tile → Meets tile (hull_of rects) =
    subst (λ (r : Rectangle). (tile : Tile) → Contains (tiles r) tile → Meets tile r) hull c.in_ok-tiles_of.ensures.meeting in
    c.in_ok-tiles_of.ensures.tiles ∙ ap tiles hull ∙ only-tiles rects one meeting
