use Rattle.std.proofs.Common.{◌≡◌, ◌-◌, ◌++◌, length, take, drop}
use Rattle.std.specs.Map.{values_of}
use Rattle.node_cache.specs.Keys.{entries_left}
use Rattle.node_cache.specs.NodeNames.{GivesUp, IsNodeCache}
use Rattle.node_cache.proofs.Voids.{by_tiles}
use Rattle.node_cache.proofs.node_cache.NodeCache.take_out.Given as goal

abbrev pub invariant-loop-at : goal.invariant-loop-at
invariant-loop-at g l = record {
  can_next : (goal.iterator-loop-at g).can_next l.at-iterator;
  finite : (goal.iterator-loop-at g).is_finite l.at-iterator;
  entries : by_tiles l.fn.node l.at-iterator l.self.names.entries ≡ entries_left l.fn.node l.fn.rect l.fn.self.names.entries;
  over : IsNodeCache l.self.names.entries l.self.names.cap l.self.capacity (g.C.ChainMeaning.held l.chain);
  capacity : l.self.capacity ≡ l.fn.self.capacity;
  given_up : GivesUp (g.C.ChainMeaning.held l.fn.chain) (g.C.ChainMeaning.held l.chain) (g.C.ChainMeaning.counts l.fn.chain) (g.C.ChainMeaning.counts l.chain)
      (values_of l.fn.self.names.entries) (values_of l.self.names.entries);
  loans : g.C.ChainMeaning.loans l.chain ≡ g.C.ChainMeaning.loans l.fn.chain;
  valid : g.C.ChainMeaning.is_valid l.fn.chain → g.C.ChainMeaning.is_valid l.chain;
}

abbrev pub invariant-loop-turn : goal.invariant-loop-turn
invariant-loop-turn g l = record {
  entries : l.self.names.entries
      ≡ entries_left l.fn.node l.fn.rect (drop (l.count - l._turn) l.fn.self.names.entries) ++ take (l.count - l._turn) l.fn.self.names.entries;
  count : l.count ≡ length l.fn.self.names.entries;
  over : IsNodeCache l.self.names.entries l.self.names.cap l.self.capacity (g.C.ChainMeaning.held l.chain);
  capacity : l.self.capacity ≡ l.fn.self.capacity;
  given_up : GivesUp (g.C.ChainMeaning.held l.fn.chain) (g.C.ChainMeaning.held l.chain) (g.C.ChainMeaning.counts l.fn.chain) (g.C.ChainMeaning.counts l.chain)
      (values_of l.fn.self.names.entries) (values_of l.self.names.entries);
  loans : g.C.ChainMeaning.loans l.chain ≡ g.C.ChainMeaning.loans l.fn.chain;
  valid : g.C.ChainMeaning.is_valid l.fn.chain → g.C.ChainMeaning.is_valid l.chain;
}
