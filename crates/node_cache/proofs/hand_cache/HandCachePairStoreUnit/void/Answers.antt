use Rattle.std.proofs.Common.{ℕ, List, map, Some, refl, ap, ◌∙◌}
use Rattle.model_states.specs.Cache.{Cached, by_pair, itself}
use Rattle.node_cache.specs.HandTiles.{hand_bytes, hand_size}
use Rattle.node_cache.specs.NodeNames.{entry_pair, pairs_in}
use Rattle.node_cache.specs.Stores.{by_sized}
use Rattle.node_cache.proofs.Lists.{void-made}
use Rattle.node_cache.proofs.hand_cache.HandCachePairStoreUnit.void.Goals as goal

pub returns-clause-pairs : goal.returns-clause-pairs
returns-clause-pairs c =
    ap (pairs_in {V = List ℕ}) c.take_out.ensures.entries
    ∙ void-made itself (entry_pair {V = List ℕ}) (λ e. refl) c.args.node c.args.rect c.args.self.now.tiles.entries

pub returns-clause-sizes : goal.returns-clause-sizes
returns-clause-sizes c =
    ap (map hand_size) c.take_out.ensures.entries
    ∙ void-made by_sized hand_size (λ e. refl) c.args.node c.args.rect c.args.self.now.tiles.entries

pub returns-clause-cached : goal.returns-clause-cached
returns-clause-cached c =
    ap (λ (list : List Cached). Some list)
    (ap (map hand_bytes) c.take_out.ensures.entries
    ∙ void-made by_pair hand_bytes (λ e. refl) c.args.node c.args.rect c.args.self.now.tiles.entries)
