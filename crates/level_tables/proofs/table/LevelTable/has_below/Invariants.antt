use Rattle.level_tables.specs.LevelTiles.{positions}
use Rattle.level_tables.proofs.Finding.{Passed}
use Rattle.level_tables.proofs.table.LevelTable.has_below.Given as goal

abbrev pub invariant-loop-tile : goal.invariant-loop-tile
invariant-loop-tile l =
    goal.iterator-loop-tile.can_next l.tile-iterator × goal.iterator-loop-tile.is_finite l.tile-iterator
    × Passed (positions l.self.tiles) l.tile-iterator l.level l.at
