use Rattle.std.proofs.Common.{List, sym, subst}
use Rattle.std.specs.Prelude.{Contains}
use Rattle.plane_rect.specs.Tile.{Tile}
use Rattle.roi_planner.proofs.region.tiles_of.Goals as goal

pub returns-clause-meeting : goal.returns-clause-meeting
returns-clause-meeting c = λ tile there.
    (c.tiles.ensures.meeting tile).0 (subst (λ (list : List Tile). Contains list tile) (sym c.tiles.ensures.value) there)
