use Rattle.std.proofs.Common.{◌≡◌, drop, map}
use Rattle.model_states.specs.Cache.{all_voided, by_pair, itself}
use Rattle.node_cache.specs.HandTiles.{IsHandCache, hand_bytes, hand_size}
use Rattle.node_cache.specs.NodeNames.{pairs_in}
use Rattle.node_cache.specs.Stores.{by_sized}
use Rattle.scene_viewers.proofs.leaving.void_all.Given as goal

abbrev pub invariant-loop-node : goal.invariant-loop-node
invariant-loop-node l = record {
  pairs : all_voided itself (pairs_in l.cache.tiles.entries) (drop l.node-index l.rects) ≡ all_voided itself (pairs_in l.fn.cache.tiles.entries) l.rects;
  sizes : all_voided by_sized (map hand_size l.cache.tiles.entries) (drop l.node-index l.rects) ≡ all_voided by_sized (map hand_size l.fn.cache.tiles.entries) l.rects;
  cached : all_voided by_pair (map hand_bytes l.cache.tiles.entries) (drop l.node-index l.rects) ≡ all_voided by_pair (map hand_bytes l.fn.cache.tiles.entries) l.rects;
  over : IsHandCache l.cache.tiles.entries l.cache.tiles.cap;
}
