use Rattle.std.proofs.Common.{◌↔◌, drop}
use Rattle.std.specs.List.{IsDistinct}
use Rattle.plane_rect.specs.Tile.{same_tile}
use Rattle.op_contracts.specs.TileList.{tiles_in}
use Rattle.op_contracts.proofs.window_tiles.WindowTiles.are_distinct.Given as goal

abbrev pub invariant-loop-number : goal.invariant-loop-number
invariant-loop-number l =
    IsDistinct same_tile (tiles_in l.self) ↔ IsDistinct same_tile (tiles_in (drop l.number l.self))
