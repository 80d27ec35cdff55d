use Rattle.swap_store.proofs.block_map.BlockMap.extent.Goals as goal

pub returns-clause-value : goal.returns-clause-value
returns-clause-value c = rw (← c.self.view_is) c.get.ensures
