use Rattle.std.proofs.Common.{length}
use Rattle.tile_chain.specs.CacheCalls.{MovesTiles}
use Rattle.tile_chain.proofs.cache_handler.CacheHandler.evict_all.Given as goal

abbrev pub invariant-loop-self : goal.invariant-loop-self
invariant-loop-self g l = MovesTiles g.H.ChainMeaning l.fn.self.tiles l.self.tiles l.fn.self.below l.self.below

abbrev pub decreases-loop-self : goal.decreases-loop-self
decreases-loop-self g l = length l.self.tiles.entries
