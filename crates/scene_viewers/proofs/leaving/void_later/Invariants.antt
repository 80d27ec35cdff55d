use Rattle.std.proofs.Common.{◌≡◌, drop, fold, map}
use Rattle.model_states.specs.Cache.{by_pair, itself}
use Rattle.node_cache.specs.HandTiles.{IsHandCache, hand_bytes, hand_size}
use Rattle.node_cache.specs.NodeNames.{pairs_in}
use Rattle.node_cache.specs.Stores.{by_sized}
use Rattle.scene_viewers.specs.Leaving.{voided_later}
use Rattle.scene_viewers.proofs.leaving.void_later.Given as goal

abbrev pub invariant-loop-damage : goal.invariant-loop-damage
invariant-loop-damage l = record {
  pairs : fold (voided_later itself l.before) (pairs_in l.cache.tiles.entries) (drop l.damage-index l.damages) ≡ fold (voided_later itself l.before) (pairs_in l.fn.cache.tiles.entries) l.damages;
  sizes : fold (voided_later by_sized l.before) (map hand_size l.cache.tiles.entries) (drop l.damage-index l.damages) ≡ fold (voided_later by_sized l.before) (map hand_size l.fn.cache.tiles.entries) l.damages;
  cached : fold (voided_later by_pair l.before) (map hand_bytes l.cache.tiles.entries) (drop l.damage-index l.damages) ≡ fold (voided_later by_pair l.before) (map hand_bytes l.fn.cache.tiles.entries) l.damages;
  over : IsHandCache l.cache.tiles.entries l.cache.tiles.cap;
}
