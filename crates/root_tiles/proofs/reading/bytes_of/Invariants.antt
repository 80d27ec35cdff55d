use Rattle.std.proofs.Common.{◌≡◌, map, take}
use Rattle.root_tiles.proofs.reading.bytes_of.Given as goal

abbrev pub invariant-loop-tile : goal.invariant-loop-tile
invariant-loop-tile l = map (λ bytes. bytes.now) l.lists.items ≡ take l.tile-index l.fn.tiles
