use Rattle.tile_chain.proofs.DiskPuts.{disk_valid}
use Rattle.tile_chain.proofs.disk_handler.DiskHandler.new.Goals as goal

pub returns-clause-valid : goal.returns-clause-valid
returns-clause-valid g c = disk_valid c.args.store.placement (g.D.SwapDisk.blocks c.args.store.disk) c.free_runs.ensures.laws
