use Rattle.node_cache.proofs.HandViews.{hand-put}
use Rattle.node_cache.proofs.hand_cache.HandCache.put.Goals as goal

pub returns-clause-entries : goal.returns-clause-entries
returns-clause-entries c =
    rw c.in_ok-put.ensures.entries
    (hand-put c.args.key c.args.self.now.tiles.entries c.args.tile c.args.self.now.tiles.cap c.requires.absent
    (rw c.len.ensures.len at c.len.ensures.fits) c.requires.over.unbounded)
