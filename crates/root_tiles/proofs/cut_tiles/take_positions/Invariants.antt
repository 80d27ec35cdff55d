use Rattle.std.proofs.Common.{◌≡◌, ◌++◌}
use Rattle.root_tiles.proofs.cut_tiles.take_positions.Given as goal

abbrev pub invariant-loop : goal.invariant-loop
invariant-loop l = l.fn.tiles ≡ l.positions.items ++ l.tiles
