use Rattle.std.proofs.Common.{◌≡◌, rules}
use Rattle.std.specs.Option.{option_map}
use Rattle.swap_store.specs.declared.block_map.Extent.{Extent}
use Rattle.chain_owners.proofs.MapValues.{get-map_values}
use Rattle.swap_store.proofs.store.Store.len_of.Goals as goal

pub returns : goal.returns
returns g c =
    let found : c.map.result ≡ option_map (λ (x : Extent). x.len) c.extent.result = search rules in
    rw (← c.self.view_is, get-map_values, ← c.extent.ensures.value) found
