use Rattle.std.proofs.Common.{◌≡◌, ℕ, List, map, refl, Some, ap, ◌∙◌}
use Rattle.std.specs.Map.{lookup}
use Rattle.lru.specs.LruCache.{LruCache}
use Rattle.model_states.specs.Cache.{Cached, by_pair, itself}
use Rattle.node_cache.specs.declared.pair_key.PairKey.{PairKey}
use Rattle.node_cache.specs.HandTiles.{hand_bytes, hand_size}
use Rattle.node_cache.specs.Keys.{same_key}
use Rattle.node_cache.specs.NodeNames.{entry_pair, pairs_in}
use Rattle.node_cache.specs.Stores.{Finds, by_sized, pair_at}
use Rattle.node_cache.proofs.HandViews.{hand-finds}
use Rattle.node_cache.proofs.Lists.{look-made}
use Rattle.node_cache.proofs.Views.{if-ok, on-result}
use Rattle.node_cache.proofs.hand_cache.HandCachePairStoreUnit.look.Goals as goal

pub returns-clause-found : goal.returns-clause-found
returns-clause-found c =
    let k : PairKey = record { node = c.args.node; at = c.args.at } in
    if-ok (λ found. found ≡ lookup (same_key k) c.args.self.now.tiles.entries)
    (Finds (pairs_in c.args.self.now.tiles.entries) (Some (map hand_bytes c.args.self.now.tiles.entries)) (pair_at c.args.node c.args.at) c.args._len)
    c.find.result c.find.ensures.found
    (λ found is. hand-finds k c.args.self.now.tiles.entries c.args._len found c.requires.length is)

pub returns-clause-pairs : goal.returns-clause-pairs
returns-clause-pairs c =
    let k : PairKey = record { node = c.args.node; at = c.args.at } in
    on-result _ _ _ _ c.find.result c.find.ensures.entries c.find.ensures.unchanged
    (λ is. ap (pairs_in {V = List ℕ}) is ∙ look-made itself (entry_pair {V = List ℕ}) (λ e. refl) k c.args.self.now.tiles.entries c.requires.over.distinct)
    (λ is. ap (λ (n : LruCache PairKey (List ℕ)). pairs_in n.entries) is)

pub returns-clause-sizes : goal.returns-clause-sizes
returns-clause-sizes c =
    let k : PairKey = record { node = c.args.node; at = c.args.at } in
    on-result _ _ _ _ c.find.result c.find.ensures.entries c.find.ensures.unchanged
    (λ is. ap (map hand_size) is ∙ look-made by_sized hand_size (λ e. refl) k c.args.self.now.tiles.entries c.requires.over.distinct)
    (λ is. ap (λ (n : LruCache PairKey (List ℕ)). map hand_size n.entries) is)

pub returns-clause-cached : goal.returns-clause-cached
returns-clause-cached c =
    let k : PairKey = record { node = c.args.node; at = c.args.at } in
    on-result _ _ _ _ c.find.result c.find.ensures.entries c.find.ensures.unchanged
    (λ is. ap (λ (list : List Cached). Some list) (ap (map hand_bytes) is ∙ look-made by_pair hand_bytes (λ e. refl) k c.args.self.now.tiles.entries c.requires.over.distinct))
    (λ is. ap (λ (n : LruCache PairKey (List ℕ)). Some (map hand_bytes n.entries)) is)
