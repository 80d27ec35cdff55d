use Rattle.node_cache.specs.declared.pair_key.PairKey.{PairKey}
use Rattle.node_cache.proofs.HandViews.{hand-no-pair}
use Rattle.node_cache.proofs.hand_cache.HandCachePairStoreUnit.keep.Goals as goal

pub put-requires-clause-absent : goal.put-requires-clause-absent
put-requires-clause-absent c =
    let k : PairKey = record { node = c.args.node; at = c.args.at } in
    hand-no-pair k c.args.self.now.tiles.entries c.requires.absent
