-- The bytes of names.
use Rattle.std.specs.Prelude.{◌≡◌, ℕ, List, Option, Some, take, length, slice_get}
use Rattle.std.specs.Option.{option_map}
use Rattle.outside_io.specs.Swap.{Blocks, bytes_of_blocks}
use Rattle.swap_store.specs.declared.block_map.Extent.{Extent}
use Rattle.swap_store.specs.Run.{blocks_for}
use Rattle.chain_owners.specs.Values.{Named, map_values}

-- the bytes that are in an extent: the first of those that its blocks have
abbrev pub bytes_in : Blocks → Extent → List ℕ
bytes_in blocks extent = take extent.len (bytes_of_blocks blocks extent.first (blocks_for extent.len))

-- the map from names to bytes, where the disk exposes its blocks
abbrev pub content_of : Named Extent → Option Blocks → Option (Named (List ℕ))
content_of extents exposed = option_map (λ blocks. map_values (bytes_in blocks) extents) exposed

-- how many bytes each name has
abbrev pub lengths_of : Named Extent → Named ℕ
lengths_of extents = map_values (λ extent. extent.len) extents

-- block n begins with these bytes
pub record BeginsAt (n : ℕ) (bytes : List ℕ) (blocks : Blocks) : Type 0 where
  pub block : List ℕ
  pub there : slice_get blocks n ≡ Some block
  pub begins : take (length bytes) block ≡ bytes
