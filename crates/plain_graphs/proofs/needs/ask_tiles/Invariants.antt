use Rattle.std.proofs.Common.{◌≡◌, ◌++◌, drop}
use Rattle.plain_graphs.specs.Needs.{asked_of_tiles}
use Rattle.plain_graphs.proofs.needs.ask_tiles.Given as goal

abbrev pub invariant-loop-tile : goal.invariant-loop-tile
invariant-loop-tile l =
    l.asked.items ++ asked_of_tiles l.op l.boxes l.indices l.bounds (drop l.tile-index l.tiles)
    ≡ l.initial.asked.items ++ asked_of_tiles l.op l.boxes l.indices l.bounds l.tiles
