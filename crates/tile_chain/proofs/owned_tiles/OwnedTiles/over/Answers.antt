use Rattle.tile_chain.proofs.Fresh.{fresh-counts, fresh-held, fresh-lengths, fresh-owners}
use Rattle.tile_chain.proofs.owned_tiles.OwnedTiles.over.Goals as goal

pub invariant_of-result : goal.invariant_of-result
invariant_of-result g c =
    let memory = c.args.memory in
    rw (c.new.ensures, c.over-cache.ensures.below, c.over-cache.ensures.tiles, c.new-below.ensures.store, c.over.ensures.placement, c.over.ensures.disk)
    (record {
      counted = fresh-owners memory.store memory.no_names memory.tiles.entries memory.no_tiles (g.D.SwapDisk.blocks c.args.disk) c.new-2.result c.new-2.ensures;
    })

pub returns-clause-held : goal.returns-clause-held
returns-clause-held g c =
    let memory = c.args.memory in
    rw (c.new.ensures, c.over-cache.ensures.below, c.over-cache.ensures.tiles, c.new-below.ensures.store, c.over.ensures.placement, c.over.ensures.disk)
    (fresh-held memory.store memory.no_names memory.tiles.entries memory.no_tiles (g.D.SwapDisk.blocks c.args.disk) c.new-2.result c.new-2.ensures)

pub returns-clause-counts : goal.returns-clause-counts
returns-clause-counts g c =
    let memory = c.args.memory in
    rw (c.new.ensures, c.over-cache.ensures.below, c.over-cache.ensures.tiles, c.new-below.ensures.store, c.over.ensures.placement, c.over.ensures.disk)
    (fresh-counts memory.store memory.no_names memory.tiles.entries memory.no_tiles memory.tiles.cap (g.D.SwapDisk.faults c.args.disk)
    (g.D.SwapDisk.blocks c.args.disk))

pub returns-clause-valid : goal.returns-clause-valid
returns-clause-valid g c =
    let memory = c.args.memory in
    let valid = rw (c.over.ensures.placement, c.over.ensures.disk) at c.new-below.ensures.valid in
    rw (c.new.ensures, c.over-cache.ensures.below, c.new-below.ensures.store, c.over.ensures.placement, c.over.ensures.disk)
    (valid (fresh-lengths memory.store memory.no_names (g.D.SwapDisk.blocks c.args.disk)))
