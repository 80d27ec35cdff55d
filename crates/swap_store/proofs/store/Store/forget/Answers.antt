use Rattle.chain_owners.proofs.MapValues.{map_values-remove}
use Rattle.swap_store.proofs.Contents.{content-forget}
use Rattle.swap_store.specs.declared.block_map.Extent.{Extent}
use Rattle.swap_store.proofs.store.Store.forget.Goals as goal

pub returns-clause-content : goal.returns-clause-content
returns-clause-content g c =
    rw (← c.self.view_is, c.remove.ensures.extents) (content-forget c.self.inside.map.extents c.args.name (g.D.SwapDisk.blocks c.self.inside.disk))

pub returns-clause-lengths : goal.returns-clause-lengths
returns-clause-lengths g c =
    rw (← c.self.view_is, c.remove.ensures.extents) (map_values-remove (λ (x : Extent). x.len) c.self.inside.map.extents c.args.name)
