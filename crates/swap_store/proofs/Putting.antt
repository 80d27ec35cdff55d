-- What a store holds after a name has the extent that was written beside all others.
use Rattle.std.proofs.Common.{◌≡◌, ℕ, List, Ok, length, ap, ◌∙◌}
use Rattle.std.specs.Option.{option_map}
use Rattle.std.specs.FinMap as map
use Rattle.chain_owners.specs.Values.{Named}
use Rattle.chain_owners.proofs.MapValues.{map_values-insert}
use Rattle.swap_store.specs.declared.block_map.Extent.{Extent}
use Rattle.swap_store.specs.Placement.{Placement, TakesBlocks, extent_at}
use Rattle.swap_store.specs.Content.{content_of, lengths_of}
use Rattle.swap_store.specs.Store.{Keeps, StoreOnDisk, WritesBeside}
use Rattle.swap_store.proofs.Contents.{content-put}
use Rattle.swap_store.proofs.FoundRoom.{no_run}

pub keeps-beside : (name i : ℕ) (bytes : List ℕ) (old written : StoreOnDisk) (placed : Placement) → WritesBeside bytes (Ok i) old written
    → TakesBlocks written.placement placed name i (length bytes) (Ok tt) → Keeps name bytes (Ok tt) old (record written { placement = placed })
keeps-beside name i bytes old written placed beside takes =
    let extent = extent_at old.placement.free i no_run (length bytes) in
    let extents : placed.extents ≡ map.insert old.placement.extents name extent =
    takes.extents no_run ∙ ap (λ (p : Placement). map.insert p.extents name (extent_at p.free i no_run (length bytes))) beside.same in
    record {
      placed = record {
        first = extent.first;
        lowest = beside.found.lowest no_run;
        extents = extents;
        used = takes.used ∙ ap (λ (p : Placement). p.used) beside.same;
      };
      lengths = ap lengths_of extents ∙ map_values-insert (λ (x : Extent). x.len) old.placement.extents name extent;
      kept =
          ap (λ extents. content_of extents written.blocks) extents
          ∙ content-put old.placement.extents name extent bytes written.blocks (beside.written no_run)
          ∙ ap (option_map (λ (content : Named (List ℕ)). map.insert content name bytes)) beside.content;
      err = tt;
      unchanged = tt;
      full = λ lt. cc (beside.full lt);
      cause = tt;
      later = beside.later;
      block_count = beside.block_count;
      loans = beside.loans;
    }
