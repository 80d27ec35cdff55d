use Rattle.tile_chain.proofs.DiskPuts.{caused, put_valid, reported}
use Rattle.tile_chain.proofs.disk_handler.DiskHandlerTileHandler.put.Goals as goal

pub returns-clause-cause : goal.returns-clause-cause
returns-clause-cause g c =
    caused c.args.self.now.store.placement c.write-answer.new.self.store.placement c.free_runs.ensures.laws c.args.name c.args.tile.now c.bytes.ensures.size
    _ _ c.write-answer.result c.write-answer.ensures.err c.write-answer.ensures.cause

pub returns-clause-full : goal.returns-clause-full
returns-clause-full g c = λ valid.
    reported c.args.self.now.store.placement c.write-answer.new.self.store.placement c.free_runs.ensures.laws c.args.name c.args.tile.now c.bytes.ensures.size
    _ _ (g.D.SwapDisk.blocks c.args.self.now.store.disk) c.write-answer.result c.write-answer.ensures.err c.write-answer.ensures.cause

pub returns-clause-valid : goal.returns-clause-valid
returns-clause-valid g c =
    put_valid c.args.self.now.store.placement c.write-answer.new.self.store.placement
    (g.D.SwapDisk.blocks c.args.self.now.store.disk) (g.D.SwapDisk.blocks c.write-answer.new.self.store.disk) c.args.name c.args.tile.now c.write-answer.result
    c.free_runs.ensures.laws c.write-answer.ensures.lengths c.write-answer.ensures.content c.write-answer.ensures.err c.write-answer.ensures.unchanged
