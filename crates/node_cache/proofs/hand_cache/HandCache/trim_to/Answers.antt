use Rattle.std.proofs.Common.{ℕ, List, map, sym, ◌∙◌, ap, arith}
use Rattle.std.proofs.lemmas.List.{take-map}
use Rattle.lru.specs.LruCache.{LruCache}
use Rattle.node_cache.specs.declared.pair_key.PairKey.{PairKey}
use Rattle.node_cache.specs.HandTiles.{hand_bytes, hand_size}
use Rattle.node_cache.specs.NodeNames.{entry_pair, pairs_in}
use Rattle.node_cache.proofs.HandViews.{hand-popped, trimmed, trimmed-all}
use Rattle.node_cache.proofs.hand_cache.HandCache.trim_to.Goals as goal

pub loop-self-preserved-in-loop-self : goal.loop-self-preserved-in-loop-self
loop-self-preserved-in-loop-self c = record {
  entries = trimmed c.loop-self.self.tiles.entries c.pop_lru.new.self.entries c.args.most (omega arith)
      (ap (λ (n : LruCache PairKey (List ℕ)). n.entries) c.pop_lru.ensures.entries) ∙ c.loop-self.invariant.entries;
  over = hand-popped c.loop-self.self.tiles.entries c.loop-self.self.tiles.cap c.pop_lru.new.self c.pop_lru.ensures.entries c.loop-self.invariant.over;
  capacity = c.loop-self.invariant.capacity;
}

pub loop-self-preserved : goal.loop-self-preserved
loop-self-preserved c = record {
  entries = trimmed c.loop-self.self.tiles.entries c.pop_lru.new.self.entries c.args.most (omega arith)
      (ap (λ (n : LruCache PairKey (List ℕ)). n.entries) c.pop_lru.ensures.entries) ∙ c.loop-self.invariant.entries;
  over = hand-popped c.loop-self.self.tiles.entries c.loop-self.self.tiles.cap c.pop_lru.new.self c.pop_lru.ensures.entries c.loop-self.invariant.over;
  capacity = c.loop-self.invariant.capacity;
}

pub returns-clause-entries : goal.returns-clause-entries
returns-clause-entries c =
    trimmed-all c.args.self.now.tiles.entries c.loop-self.self.tiles.entries c.args.most (omega arith) c.loop-self.invariant.entries

pub returns-clause-pairs : goal.returns-clause-pairs
returns-clause-pairs c =
    ap (pairs_in {V = List ℕ}) (returns-clause-entries c)
    ∙ sym (take-map (entry_pair {V = List ℕ}) c.args.most c.args.self.now.tiles.entries)

pub returns-clause-sizes : goal.returns-clause-sizes
returns-clause-sizes c =
    ap (map hand_size) (returns-clause-entries c) ∙ sym (take-map hand_size c.args.most c.args.self.now.tiles.entries)

pub returns-clause-cached : goal.returns-clause-cached
returns-clause-cached c =
    ap (map hand_bytes) (returns-clause-entries c) ∙ sym (take-map hand_bytes c.args.most c.args.self.now.tiles.entries)
