use Rattle.std.proofs.Common.{◌≡◌, ◌-◌, ◌++◌, length, take, drop}
use Rattle.node_cache.specs.HandTiles.{IsHandCache}
use Rattle.node_cache.specs.Keys.{entries_left}
use Rattle.node_cache.proofs.Voids.{by_tiles}
use Rattle.node_cache.proofs.hand_cache.HandCache.take_out.Given as goal

abbrev pub invariant-loop-at : goal.invariant-loop-at
invariant-loop-at l = record {
  can_next : (goal.iterator-loop-at).can_next l.at-iterator;
  finite : (goal.iterator-loop-at).is_finite l.at-iterator;
  entries : by_tiles l.fn.node l.at-iterator l.self.tiles.entries ≡ entries_left l.fn.node l.fn.rect l.fn.self.tiles.entries;
  over : IsHandCache l.self.tiles.entries l.self.tiles.cap;
}

abbrev pub invariant-loop-turn : goal.invariant-loop-turn
invariant-loop-turn l = record {
  entries : l.self.tiles.entries
      ≡ entries_left l.fn.node l.fn.rect (drop (l.count - l._turn) l.fn.self.tiles.entries) ++ take (l.count - l._turn) l.fn.self.tiles.entries;
  count : l.count ≡ length l.fn.self.tiles.entries;
  over : IsHandCache l.self.tiles.entries l.self.tiles.cap;
}
