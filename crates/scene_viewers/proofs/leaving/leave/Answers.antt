use Rattle.std.proofs.Common.{arith, map}
use Rattle.std.proofs.lemmas.Bool.Decides.{nat_tests}
use Rattle.model_states.specs.Cache.{by_pair, itself}
use Rattle.node_cache.specs.HandTiles.{hand_bytes, hand_size}
use Rattle.node_cache.specs.NodeNames.{pairs_in}
use Rattle.node_cache.specs.Stores.{by_sized}
use Rattle.scene_viewers.proofs.Voided.{left-near}
use Rattle.scene_viewers.proofs.leaving.leave.Goals as goal

pub returns-clause-pairs : goal.returns-clause-pairs
returns-clause-pairs c =
    left-near itself c.args.before c.args.number c.args.damages.now (pairs_in c.args.cache.now.tiles.entries) (pairs_in c.void_later.new.cache.tiles.entries)
    (grind (arith, nat_tests, c.if-saturating_sub-gt-MOST_DAMAGES.false, c.saturating_sub.ensures)) c.void_later.ensures.pairs

pub returns-clause-sizes : goal.returns-clause-sizes
returns-clause-sizes c =
    left-near by_sized c.args.before c.args.number c.args.damages.now (map hand_size c.args.cache.now.tiles.entries) (map hand_size c.void_later.new.cache.tiles.entries)
    (grind (arith, nat_tests, c.if-saturating_sub-gt-MOST_DAMAGES.false, c.saturating_sub.ensures)) c.void_later.ensures.sizes

pub returns-clause-cached : goal.returns-clause-cached
returns-clause-cached c =
    left-near by_pair c.args.before c.args.number c.args.damages.now (map hand_bytes c.args.cache.now.tiles.entries) (map hand_bytes c.void_later.new.cache.tiles.entries)
    (grind (arith, nat_tests, c.if-saturating_sub-gt-MOST_DAMAGES.false, c.saturating_sub.ensures)) c.void_later.ensures.cached
