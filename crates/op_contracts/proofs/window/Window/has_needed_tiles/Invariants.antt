use Rattle.std.proofs.Common.{◌⊎◌, Contains}
use Rattle.std.specs.Prelude.{IsSome}
use Rattle.plane_rect.specs.Tile.{Meets, Tile}
use Rattle.model_graphs.specs.Windows.{tiles_of}
use Rattle.op_contracts.proofs.window.Window.has_needed_tiles.Given as goal

abbrev pub invariant-loop-at : goal.invariant-loop-at
invariant-loop-at l =
    (goal.iterator-loop-at).can_next l.at-iterator
    × (goal.iterator-loop-at).is_finite l.at-iterator
    × ((tile : Tile) → Contains l.at-iterator tile → Meets tile l.fn.self.need)
    × ((tile : Tile) → Meets tile l.fn.self.need → IsSome (tiles_of l.fn.self tile) ⊎ Contains l.at-iterator tile)
