use Rattle.std.proofs.Common.{sym, ap, ◌∙◌, is_some}
use Rattle.std.specs.FinMap as map
use Rattle.swap_store.specs.declared.block_map.Extent.{Extent}
use Rattle.chain_owners.proofs.MapValues.{get-map_values}
use Rattle.tile_chain.proofs.NameCounts.{is_some-map}
use Rattle.tile_chain.proofs.disk_handler.DiskHandlerTileHandler.has.Goals as goal

pub returns : goal.returns
returns g c =
    let extents = c.args.self.now.store.placement.extents in
    c.has.ensures ∙ sym (ap is_some (get-map_values (λ (x : Extent). x.len) extents c.args.name) ∙ is_some-map (λ (x : Extent). x.len) (map.get extents c.args.name))
