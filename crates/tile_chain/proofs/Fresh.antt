-- A chain without names.
use Rattle.std.proofs.Common.{◌≡◌, ℕ, List, [], length, Option, Some, None, is_some, refl, sym, ap, ap₂, ◌∙◌, subst, arith}
use Rattle.std.specs.Ordering.{nat_cmp}
use Rattle.std.specs.Option.{option_map}
use Rattle.std.specs.FinMap as map
use Rattle.std.specs.FinMap.{len-empty}
use Rattle.outside_io.specs.Swap.{Blocks}
use Rattle.chain_owners.specs.Held.{HasLengths, Held}
use Rattle.chain_owners.specs.Values.{Named}
use Rattle.chain_owners.proofs.MapValues.{map_values-empty}
use Rattle.swap_store.specs.declared.block_map.Extent.{Extent}
use Rattle.swap_store.specs.Content.{bytes_in, content_of, lengths_of}
use Rattle.swap_store.specs.Placement.{Placement}
use Rattle.tile_chain.specs.DiskTiles.{disk_counts, disk_held}
use Rattle.tile_chain.specs.OwnedTiles.{HaveOwners, counts_over, nothing_over, with_counts}
use Rattle.tile_chain.specs.Overlay.{IsCache, cache_counts, overlay}

pub len-none : (extents : Named Extent) → extents ≡ map.empty → map.len extents ≡ 0
len-none extents none = ap map.len none ∙ len-empty nat_cmp Extent

module _ (placement : Placement) (none : map.len placement.extents ≡ 0) where
  no_lengths : lengths_of placement.extents ≡ map.empty
  no_lengths = ap lengths_of (map.empty_of_len placement.extents none) ∙ map_values-empty (λ (extent : Extent). extent.len)

  no_content : (blocks : Option Blocks) → content_of placement.extents blocks ≡ option_map (λ _. map.empty) blocks
  no_content None = refl
  no_content (Some blocks) =
      ap (λ extents. content_of extents (Some blocks)) (map.empty_of_len placement.extents none)
      ∙ ap (λ content. Some content) (map_values-empty (bytes_in blocks))

  no_tiles : (blocks : Option Blocks) → disk_held placement blocks ≡ nothing_over blocks
  no_tiles blocks =
      ap₂ (λ (lengths : Named ℕ) (content : Option (Named (List ℕ))). record { lengths = lengths; content = content; owners = map.empty })
      no_lengths (no_content blocks)

  no_bytes : (blocks : Option Blocks) → HasLengths (nothing_over blocks)
  no_bytes None = tt
  no_bytes (Some blocks) = sym (map_values-empty length)

  -- it has the lengths of its bytes
  pub fresh-lengths : (blocks : Option Blocks) → HasLengths (disk_held placement blocks)
  fresh-lengths blocks = subst HasLengths (sym (no_tiles blocks)) (no_bytes blocks)

  module _ (es : List (ℕ × List ℕ)) (empty : es ≡ []) where
    pub fresh-held : (blocks : Option Blocks) (owners : Named ℕ) → owners ≡ map.empty
        → with_counts (overlay es (disk_held placement blocks)) owners ≡ nothing_over blocks
    fresh-held blocks owners unowned =
        ap₂ (λ (fs : List (ℕ × List ℕ)) (counts : Named ℕ). with_counts (overlay fs (disk_held placement blocks)) counts) empty unowned
        ∙ ap (λ (held : Held). with_counts held map.empty) (no_tiles blocks)

    pub fresh-owners : (blocks : Option Blocks) (owners : Named ℕ) → owners ≡ map.empty → HaveOwners (overlay es (disk_held placement blocks)) owners
    fresh-owners blocks owners unowned name =
        ap (λ (counts : Named ℕ). is_some (map.get counts name)) (unowned ∙ sym (ap (λ (held : Held). held.lengths) (fresh-held blocks owners unowned)))

    pub fresh-counts : (capacity faults : ℕ) (blocks : Option Blocks)
        → cache_counts es capacity (disk_held placement blocks) (disk_counts placement faults) ≡ counts_over faults placement.used capacity
    fresh-counts capacity faults blocks =
        ap (λ n. record { faults = faults; names = n; used = Some placement.used; capacity = capacity })
        (ap (λ (fs : List (ℕ × List ℕ)). map.len (overlay fs (disk_held placement blocks)).lengths) empty ∙ ap map.len no_lengths ∙ len-empty nat_cmp ℕ)

-- a cache without tiles
pub fresh-cache : (es : List (ℕ × List ℕ)) → es ≡ [] → (capacity : ℕ) (below : Held) → IsCache es capacity below
fresh-cache es empty capacity below =
    subst (λ (fs : List (ℕ × List ℕ)). IsCache fs capacity below) (sym empty)
    (record { fits = omega arith; shown = record { lengths = λ name len is. is; bytes = λ name bytes is. is } })
