-- The bytes of names, after a name came or went.
use Rattle.std.proofs.Common.{◌≡◌, ℕ, ◌+◌, ◌≤◌, List, take, Option, Some, None, IfSome, IsSome, ◌⊎◌, inl, inr, refl, sym, ap, ◌∙◌, arith}
use Rattle.std.specs.Option.{option_map}
use Rattle.std.specs.FinMap as map
use Rattle.std.proofs.lemmas.Bool.{cases_lt}
use Rattle.outside_io.specs.Swap.{Blocks, UnchangedOutside}
use Rattle.swap_store.specs.declared.block_map.Extent.{Extent}
use Rattle.swap_store.specs.Run.{blocks_for, InBlocks, HasBlock}
use Rattle.chain_owners.specs.Values.{Named, map_values}
use Rattle.swap_store.specs.Placement.{Placement, IsPlacement, InExtent}
use Rattle.swap_store.specs.Content.{bytes_in, content_of, lengths_of}
use Rattle.chain_owners.proofs.MapValues.{get-map_values, map_values-insert, map_values-remove, map_values-same}
use Rattle.swap_store.proofs.PlacementLaws.{blocks_for-some}
use Rattle.swap_store.proofs.Exposed.{bytes-unchanged_outside}

-- ---- extents that are apart

pub extents_apart : (first count : ℕ) (e : Extent) → 1 ≤ count → 1 ≤ blocks_for e.len → ((b : ℕ) → InBlocks b first count → ¬ InExtent b e)
    → (e.first + blocks_for e.len ≤ first) ⊎ (first + count ≤ e.first)
extents_apart first count e some some' apart = elim (cases_lt first e.first) [
  | inl lt ↦ elim (cases_lt e.first (first + count)) [
    | inl within ↦ absurd (apart e.first (record { low = omega arith; high = within }) (record { low = omega arith; high = omega arith }))
    | inr ge ↦ inr ge
  ]
  | inr ge ↦ elim (cases_lt first (e.first + blocks_for e.len)) [
    | inl within ↦ absurd (apart first (record { low = omega arith; high = omega arith }) (record { low = ge; high = within }))
    | inr ge' ↦ inl ge'
  ]
]

-- the bytes of a name stand where blocks of no name were written
pub bytes-unchanged : (p : Placement) → IsPlacement p → (first count : ℕ) → 1 ≤ count → ((b : ℕ) → InBlocks b first count → HasBlock p.free b)
    → (old new : Blocks) → UnchangedOutside first count (Some old) (Some new)
    → (q : ℕ) (e : Extent) → map.get p.extents q ≡ Some e → bytes_in new e ≡ bytes_in old e
bytes-unchanged p laws first count some free old new unchanged q e known =
    ap (take e.len)
    (bytes-unchanged_outside old new e.first (blocks_for e.len) first count unchanged
    (extents_apart first count e some (blocks_for-some e.len (laws.fits q e known).0.0)
    (λ b is_inside in_e. ((laws.exact b).0 (free b is_inside)).1 q e known in_e)))

pub content-unchanged : (p : Placement) → IsPlacement p → (first count : ℕ) → 1 ≤ count → ((b : ℕ) → InBlocks b first count → HasBlock p.free b)
    → (old new : Option Blocks) → UnchangedOutside first count old new → content_of p.extents new ≡ content_of p.extents old
content-unchanged p laws first count some free None None unchanged = refl
content-unchanged p laws first count some free None (Some new) unchanged = absurd unchanged
content-unchanged p laws first count some free (Some old) None unchanged = absurd unchanged
content-unchanged p laws first count some free (Some old) (Some new) unchanged =
    ap (λ m. Some m) (map_values-same (bytes_in new) (bytes_in old) p.extents (bytes-unchanged p laws first count some free old new unchanged))

-- a name that has other blocks has the bytes that are there
pub content-put : (extents : Named Extent) (name : ℕ) (extent : Extent) (bytes : List ℕ) (known : Option Blocks)
    → IfSome known (λ blocks. bytes_in blocks extent ≡ bytes)
    → content_of (map.insert extents name extent) known ≡ option_map (λ content. map.insert content name bytes) (content_of extents known)
content-put extents name extent bytes None written = refl
content-put extents name extent bytes (Some blocks) written =
    ap (λ m. Some m)
    (map_values-insert (bytes_in blocks) extents name extent
    ∙ ap (λ v. map.insert (map_values (bytes_in blocks) extents) name v) written)

pub content-forget : (extents : Named Extent) (name : ℕ) (exposed : Option Blocks)
    → content_of (map.remove extents name) exposed ≡ option_map (λ content. map.remove content name) (content_of extents exposed)
content-forget extents name None = refl
content-forget extents name (Some blocks) = ap (λ m. Some m) (map_values-remove (bytes_in blocks) extents name)

-- ---- a name that is read

pub known_len : (extents : Named Extent) (name len : ℕ) (e : Extent) → map.get (lengths_of extents) name ≡ Some len → map.get extents name ≡ Some e → e.len ≡ len
known_len extents name len e has known =
    let is : Some e.len ≡ Some len = sym (get-map_values (λ (x : Extent). x.len) extents name ∙ ap (option_map (λ (x : Extent). x.len)) known) ∙ has in
    cc

pub known_extent : (extents : Named Extent) (name len : ℕ) → map.get (lengths_of extents) name ≡ Some len → IsSome (map.get extents name)
known_extent extents name len has =
    some_from (map.get extents name) len (sym (get-map_values (λ (x : Extent). x.len) extents name) ∙ has)
  where
    some_from : (o : Option Extent) (len : ℕ) → option_map (λ (x : Extent). x.len) o ≡ Some len → IsSome o
    some_from None len is = absurd (let no_such : None ≡ Some len = is in cc)
    some_from (Some e) len is = refl

pub content-get : (extents : Named Extent) (name : ℕ) (e : Extent) (tile : List ℕ) (exposed : Option Blocks) → map.get extents name ≡ Some e
    → IfSome exposed (λ blocks. tile ≡ bytes_in blocks e) → IfSome (content_of extents exposed) (λ content. map.get content name ≡ Some tile)
content-get extents name e tile None known is = tt
content-get extents name e tile (Some blocks) known is =
    get-map_values (bytes_in blocks) extents name ∙ ap (option_map (bytes_in blocks)) known ∙ ap (λ bytes. Some bytes) (sym is)
