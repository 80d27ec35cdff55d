use Rattle.std.proofs.Common.{◌≡◌, List, drop}
use Rattle.std.specs.Map.{values_of}
use Rattle.std.specs.Option.{option_map}
use Rattle.model_states.specs.Cache.{Cached, all_voided, by_pair, itself}
use Rattle.node_cache.specs.NodeNames.{IsNodeCache, cached_in, pairs_in, sizes_in}
use Rattle.node_cache.specs.Stores.{AddsNoOther, HaveOneOwner, by_sized}
use Rattle.root_tiles.specs.Chains.{Leaves, chain_state}
use Rattle.commit_session.proofs.voids.void_all.Given as goal

abbrev pub invariant-loop-node : goal.invariant-loop-node
invariant-loop-node g l = record {
  pairs : all_voided itself (pairs_in l.cache.names.entries) (drop l.node-index l.damages) ≡ all_voided itself (pairs_in l.fn.cache.names.entries) l.damages;
  sizes : all_voided by_sized (sizes_in l.cache.names.entries (g.C.ChainMeaning.held l.chain)) (drop l.node-index l.damages)
      ≡ all_voided by_sized (sizes_in l.fn.cache.names.entries (g.C.ChainMeaning.held l.fn.chain)) l.damages;
  cached : option_map (λ (list : List Cached). all_voided by_pair list (drop l.node-index l.damages)) (cached_in l.cache.names.entries (g.C.ChainMeaning.held l.chain))
      ≡ option_map (λ (list : List Cached). all_voided by_pair list l.damages) (cached_in l.fn.cache.names.entries (g.C.ChainMeaning.held l.fn.chain));
  over : IsNodeCache l.cache.names.entries l.cache.names.cap l.cache.capacity (g.C.ChainMeaning.held l.chain);
  capacity : l.cache.capacity ≡ l.fn.cache.capacity;
  alone : HaveOneOwner (g.C.ChainMeaning.held l.chain) (values_of l.cache.names.entries);
  other_names : AddsNoOther (g.C.ChainMeaning.counts l.fn.chain) (g.C.ChainMeaning.counts l.chain) (values_of l.fn.cache.names.entries) (values_of l.cache.names.entries);
  left : Leaves 0 (values_of l.fn.cache.names.entries) (values_of l.cache.names.entries)
      (chain_state g.C.ChainMeaning l.fn.chain) (chain_state g.C.ChainMeaning l.chain);
}
