use Rattle.std.proofs.Common.{◌≡◌, length, take}
use Rattle.node_cache.specs.HandTiles.{IsHandCache}
use Rattle.node_cache.proofs.hand_cache.HandCache.trim_to.Given as goal

abbrev pub invariant-loop-self : goal.invariant-loop-self
invariant-loop-self l = record {
  entries : take l.fn.most l.self.tiles.entries ≡ take l.fn.most l.fn.self.tiles.entries;
  over : IsHandCache l.self.tiles.entries l.self.tiles.cap;
  capacity : l.self.capacity ≡ l.fn.self.capacity;
}

abbrev pub decreases-loop-self : goal.decreases-loop-self
decreases-loop-self l = length l.self.tiles.entries
