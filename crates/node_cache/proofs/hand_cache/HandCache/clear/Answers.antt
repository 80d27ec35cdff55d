use Rattle.node_cache.proofs.HandViews.{hand-empty}
use Rattle.node_cache.proofs.hand_cache.HandCache.clear.Goals as goal

pub returns-clause-over : goal.returns-clause-over
returns-clause-over c = rw c.clear.ensures (hand-empty _ c.requires.unbounded)
