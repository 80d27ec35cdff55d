use Rattle.tile_chain.proofs.DiskPuts.{forget_valid, some_extent}
use Rattle.tile_chain.proofs.disk_handler.DiskHandlerTileHandler.forget.Goals as goal

pub forget-requires : goal.forget-requires
forget-requires g c = some_extent c.args.self.now.store.placement.extents c.args.name c.requires

pub returns-clause-valid : goal.returns-clause-valid
returns-clause-valid g c =
    forget_valid c.args.self.now.store.placement c.forget.new.self.placement
    (g.D.SwapDisk.blocks c.args.self.now.store.disk) (g.D.SwapDisk.blocks c.forget.new.self.disk) c.args.name
    c.free_runs.ensures.laws c.forget.ensures.lengths c.forget.ensures.content
