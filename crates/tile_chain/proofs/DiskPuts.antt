-- What a disk holds after a tile was put on it, and why it may find no room.
use Rattle.std.proofs.Common.{◌≡◌, ℕ, ◌+◌, ◌*◌, ◌<◌, ◌≤◌, List, length, Option, Some, None, IsSome, Result, Ok, Err, IfErr, OnOk, OnErr, ◌^◌, sym, ap, ap₂, ◌∙◌, inl, inr, subst, arith}
use Rattle.std.specs.Option.{option_map}
use Rattle.std.specs.FinMap as map
use Rattle.std.proofs.lemmas.Bool.{cases_lt}
use Rattle.tile_cow.specs.Tile.{IsTileLength}
use Rattle.outside_io.specs.Swap.{Blocks}
use Rattle.chain_owners.specs.Held.{HasLengths}
use Rattle.chain_owners.specs.Values.{Named}
use Rattle.chain_owners.proofs.HeldLaws.{lengths-put, lengths-removed}
use Rattle.chain_owners.proofs.MapValues.{get-map_values}
use Rattle.chain_owners.specs.declared.swap_refused.SwapRefused.{SwapRefused}
use Rattle.chain_owners.specs.declared.swap_refused.SwapRefused.TheVariants as refusals
use Rattle.chain_owners.specs.Cause.{HasSwapCause}
use Rattle.swap_store.specs.Content.{content_of, lengths_of}
use Rattle.swap_store.specs.Placement.{IsPlacement, Placement}
use Rattle.swap_store.specs.Run.{blocks_for, longest}
use Rattle.swap_store.specs.Store.{HasPutCause}
use Rattle.swap_store.proofs.RunLists.{IsRunList-below}
use Rattle.swap_store.proofs.Windows.{few_names_leave_room}
use Rattle.swap_store.specs.declared.block_map.Extent.{Extent}
use Rattle.tile_chain.specs.DiskTiles.{IsDisk, disk_counts, disk_held, disk_room}
use Rattle.chain_contracts.specs.Tiles.{ReportsPut}
use Rattle.tile_chain.proofs.NameCounts.{len-inserted, len-map_values, len-some}

pub disk_valid : (p : Placement) (blocks : Option Blocks) → IsPlacement p → HasLengths (disk_held p blocks) → IsDisk p blocks
disk_valid p blocks laws lengths = record {
  placed = laws;
  lengths = lengths;
  runs = IsRunList-below 0 (2 ^ 20) p.used p.free laws.runs (λ b h. ((laws.exact b).0 h).0);
}

-- equal lengths and equal bytes are equal tiles
pub same_held : (p : Placement) (blocks : Option Blocks) (lengths : Named ℕ) (content : Option (Named (List ℕ)))
    → lengths_of p.extents ≡ lengths → content_of p.extents blocks ≡ content
    → disk_held p blocks ≡ record { lengths = lengths; content = content; owners = map.empty }
same_held p blocks lengths content is has =
    ap₂ (λ (l : Named ℕ) (c : Option (Named (List ℕ))). record { lengths = l; content = c; owners = map.empty }) is has

module _ (old new : Placement) (before now : Option Blocks) (name : ℕ) (tile : List ℕ) where
  abbrev with_put : Option (Named (List ℕ))
  with_put = option_map (λ content. map.insert content name tile) (content_of old.extents before)

  lengths_kept : (answer : Result (Unit {0}) SwapRefused)
      → OnOk answer (lengths_of new.extents ≡ map.insert (lengths_of old.extents) name (length tile))
      → OnOk answer (content_of new.extents now ≡ with_put)
      → OnErr answer (new ≡ old) → OnErr answer (content_of new.extents now ≡ content_of old.extents before)
      → HasLengths (disk_held old before) → HasLengths (disk_held new now)
  lengths_kept (Ok done) lengths content same unchanged is =
      subst HasLengths
      (sym (same_held new now (map.insert (lengths_of old.extents) name (length tile)) with_put lengths content))
      (lengths-put (content_of old.extents before) (lengths_of old.extents) name tile is)
  lengths_kept (Err e) lengths content same unchanged is =
      subst HasLengths
      (sym (same_held new now (lengths_of old.extents) (content_of old.extents before) (ap (λ (p : Placement). lengths_of p.extents) same) unchanged))
      is

  pub put_valid : (answer : Result (Unit {0}) SwapRefused) → IsPlacement new
      → OnOk answer (lengths_of new.extents ≡ map.insert (lengths_of old.extents) name (length tile))
      → OnOk answer (content_of new.extents now ≡ with_put)
      → OnErr answer (new ≡ old) → OnErr answer (content_of new.extents now ≡ content_of old.extents before)
      → IsDisk old before → IsDisk new now
  put_valid answer laws lengths content same unchanged is =
      disk_valid new now laws (lengths_kept answer lengths content same unchanged is.lengths)

module _ (old new : Placement) (same : new ≡ old) (laws : IsPlacement new) (name : ℕ) (tile : List ℕ) (size : IsTileLength (length tile)) where
  abbrev names : ℕ
  names = map.len (map.insert (lengths_of old.extents) name (length tile))

  all_names : map.len new.extents ≤ names
  all_names = omega (arith, len-inserted (lengths_of old.extents) name (length tile), len-map_values (λ (e : Extent). e.len) old.extents, ap (λ (p : Placement). map.len p.extents) same)

  room_left : longest new.free < blocks_for (length tile) → new.used < 32 * (names + 1)
  room_left short = elim (cases_lt new.used (32 * (names + 1))) [
    | inl lt ↦ lt
    | inr ge ↦ absurd (omega (arith, few_names_leave_room new laws (omega (arith, all_names)), size.1))
  ]

  pub put_cause : (faults faults' : ℕ) (refused : SwapRefused) → HasPutCause old.free (length tile) faults faults' refused
      → HasSwapCause (disk_counts old faults) (disk_counts new faults') names refused
  put_cause faults faults' refusals.SwapFault cause = cause
  put_cause faults faults' (refusals.SwapFull needed found) cause =
      let same_room : longest new.free ≡ longest old.free = ap (λ (p : Placement). longest p.free) same in
      let full : longest new.free < blocks_for (length tile) = omega (arith, cause.0, cause.1, cause.2, same_room) in
      record { short = cause.2; past = len-some (lengths_of old.extents) name (length tile); room = subst (λ (p : Placement). p.used < 32 * (names + 1)) same (room_left full) }
  put_cause faults faults' refusals.NoMemory cause = tt

  pub put_reports : (faults faults' : ℕ) (before : Option Blocks) (refused : SwapRefused) → HasPutCause old.free (length tile) faults faults' refused
      → ReportsPut (disk_held old before) tile (Some (disk_room new)) refused
  put_reports faults faults' before refusals.SwapFault cause = tt
  put_reports faults faults' before (refusals.SwapFull needed found) cause = record {
    tile = inr cause.0;
    longest = cause.1 ∙ ap (λ (p : Placement). longest p.free) (sym same);
  }
  put_reports faults faults' before refusals.NoMemory cause = tt

module _ (old new : Placement) (laws : IsPlacement new) (name : ℕ) (tile : List ℕ) (size : IsTileLength (length tile)) (faults faults' : ℕ) where
  pub caused : (answer : Result (Unit {0}) SwapRefused) → OnErr answer (new ≡ old) → IfErr answer (HasPutCause old.free (length tile) faults faults')
      → IfErr answer (HasSwapCause (disk_counts old faults) (disk_counts new faults') (map.len (map.insert (lengths_of old.extents) name (length tile))))
  caused (Ok done) same cause = tt
  caused (Err refused) same cause = put_cause old new same laws name tile size faults faults' refused cause

  pub reported : (before : Option Blocks) (answer : Result (Unit {0}) SwapRefused) → OnErr answer (new ≡ old) → IfErr answer (HasPutCause old.free (length tile) faults faults')
      → IfErr answer (ReportsPut (disk_held old before) tile (Some (disk_room new)))
  reported before (Ok done) same cause = tt
  reported before (Err refused) same cause = put_reports old new same laws name tile size faults faults' before refused cause

-- a name that is there has an extent
pub some_extent : (extents : Named Extent) (name : ℕ) → IsSome (map.get (lengths_of extents) name) → IsSome (map.get extents name)
some_extent extents name there = some_from (map.get extents name) (rw (get-map_values (λ (x : Extent). x.len) extents name) at there)
  where
    some_from : (o : Option Extent) → IsSome (option_map (λ (x : Extent). x.len) o) → IsSome o
    some_from None is = is
    some_from (Some e) is = is

pub forget_valid : (old new : Placement) (before now : Option Blocks) (name : ℕ) → IsPlacement new
    → lengths_of new.extents ≡ map.remove (lengths_of old.extents) name
    → content_of new.extents now ≡ option_map (λ (content : Named (List ℕ)). map.remove content name) (content_of old.extents before)
    → IsDisk old before → IsDisk new now
forget_valid old new before now name laws lengths content is = disk_valid new now laws (
    subst HasLengths
    (sym (same_held new now (map.remove (lengths_of old.extents) name)
    (option_map (λ (content : Named (List ℕ)). map.remove content name) (content_of old.extents before)) lengths content))
    (lengths-removed (content_of old.extents before) (lengths_of old.extents) name is.lengths))
