use Rattle.std.proofs.Common.{◌≡◌, ◌++◌, map, drop}
use Rattle.plane_rect.specs.Tile.{Tile}
use Rattle.roi_planner.proofs.need.add_needed.Given as goal

abbrev pub invariant-loop-tile : goal.invariant-loop-tile
invariant-loop-tile g l =
    l.list.items ++ map (λ (tile : Tile). (l.node, tile)) (drop l.tile-index l.tiles)
    ≡ l.initial.list.items ++ map (λ (tile : Tile). (l.node, tile)) l.tiles
