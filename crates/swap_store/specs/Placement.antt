-- Where names are on a disk.
use Rattle.std.specs.Prelude.{◌≡◌, ◌≢◌, ℕ, ◌+◌, ◌<◌, ◌≤◌, ◌^◌, ◌↔◌, List, OnErr, OnOk, Result, Some, length, refl, slice_index_or}
use Rattle.std.specs.Coded.{Coded, code_by, coded×, coded_list, coded_ℕ}
use Rattle.std.specs.FinMap as map
use Rattle.alloc_basics.specs.declared.memory.NoMemory.{NoMemory}
use Rattle.tile_cow.specs.Tile.{IsTileLength}
use Rattle.chain_owners.specs.declared.run.Run.{Run}
use Rattle.swap_store.specs.declared.block_map.Extent.{Extent}
use Rattle.swap_store.specs.Run.{blocks_for, InBlocks, HasBlock, IsRunList, first_fit}
use Rattle.chain_owners.specs.Values.{Named}

-- each name's extent, the free runs, and how many blocks of the disk are used
pub record Placement : Type 0 where
  pub extents : Named Extent
  pub free : List Run
  pub used : ℕ

-- a placement is stored as its fields in pairs
abbrev pub run_code : Coded Run
run_code = code_by (ℕ × ℕ) (coded× coded_ℕ coded_ℕ) (λ run. (run.first, run.count)) (λ p. record { first = p.0; count = p.1 }) (λ _. refl)

abbrev pub extent_code : Coded Extent
extent_code = code_by (ℕ × ℕ) (coded× coded_ℕ coded_ℕ) (λ extent. (extent.first, extent.len)) (λ p. record { first = p.0; len = p.1 }) (λ _. refl)

abbrev pub placement_code : Coded Placement
placement_code =
    code_by (Named Extent × (List Run × ℕ)) (coded× (map.code coded_ℕ extent_code) (coded× (coded_list run_code) coded_ℕ))
    (λ p. (p.extents, (p.free, p.used)))
    (λ parts. record { extents = parts.0; free = parts.1.0; used = parts.1.1 }) (λ _. refl)

-- a block is one of an extent's
abbrev pub InExtent : ℕ → Extent → Type 0
InExtent block extent = InBlocks block extent.first (blocks_for extent.len)

-- a block is no name's
abbrev pub IsUnnamed : Named Extent → ℕ → Type 0
IsUnnamed extents block = (name : ℕ) (extent : Extent) → map.get extents name ≡ Some extent → ¬ InExtent block extent

-- What holds of where names are, at every moment.
pub record IsPlacement (p : Placement) : Type 0 where
  -- the free runs are in order, and neighbors are one run
  pub runs : IsRunList 0 (2 ^ 20) p.free
  -- they have exactly the blocks of no name
  pub exact : (block : ℕ) → HasBlock p.free block ↔ ((block < p.used) × IsUnnamed p.extents block)
  -- each name has 1 to 65,536 bytes, in blocks that are used
  pub fits : (name : ℕ) (extent : Extent) → map.get p.extents name ≡ Some extent
      → IsTileLength extent.len × (extent.first + blocks_for extent.len ≤ p.used)
  -- no block is two names'
  pub apart : (name other : ℕ) (extent extent' : Extent) → name ≢ other
      → map.get p.extents name ≡ Some extent → map.get p.extents other ≡ Some extent'
      → (block : ℕ) → InExtent block extent → ¬ InExtent block extent'
  pub bounded : p.used ≤ 2 ^ 20

-- the first of the blocks of the free run of this index, as many as so many bytes take
abbrev pub extent_at : List Run → ℕ → Run → ℕ → Extent
extent_at free index default len = record { first = (slice_index_or free index default).first; len = len }

-- the name has the first blocks of the lowest free run that is long enough, and all others are where they were
pub record PutsAtFirstFit (old new : Placement) (name len : ℕ) : Type 0 where
  pub first : ℕ
  pub lowest : first_fit old.free (blocks_for len) ≡ Some first
  pub extents : new.extents ≡ map.insert old.extents name (record { first = first; len = len })
  pub used : new.used ≡ old.used

-- the bytes of a tile, of which there are so many, fit in the free run of this index
pub record HasRoomAt (p : Placement) (index len : ℕ) : Type 0 where
  pub size : IsTileLength len
  pub known : index < length p.free
  pub long : (d : Run) → blocks_for len ≤ (slice_index_or p.free index d).count

-- A name has the first blocks of the free run of this index, as many as so many bytes take. Where memory ran out, all is
-- unchanged.
pub record TakesBlocks (old new : Placement) (name index len : ℕ) (result : Result (Unit {0}) NoMemory) : Type 0 where
  pub extents : OnOk result ((d : Run) → new.extents ≡ map.insert old.extents name (extent_at old.free index d len))
  pub used : new.used ≡ old.used
  pub unchanged : OnErr result (new ≡ old)
