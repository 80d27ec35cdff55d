use Rattle.std.proofs.Common.{refl}
use Rattle.node_cache.proofs.HandViews.{hand-empty}
use Rattle.node_cache.proofs.hand_cache.HandCache.new.Goals as goal

pub returns-clause-over : goal.returns-clause-over
returns-clause-over c = rw c.in_ok-tiles.ensures (hand-empty _ refl)
