-- Tiles whose names have owners, after a name came or went, or had another number of owners.
use Rattle.std.proofs.Common.{◌≡◌, ◌≢◌, ℕ, ◌+◌, ◌-◌, ◌<◌, ◌≤◌, cond, List, length, Option, Some, None, IsSome, is_some, Result, Ok, Err, IfErr, OnErr, OnOk, sym, ap, ap₂, ◌∙◌, subst, inl, inr, arith}
use Rattle.std.specs.Option.{unwrap_or}
use Rattle.std.specs.FinMap as map
use Rattle.std.specs.FinMap.{len-insert}
use Rattle.std.proofs.lemmas.Bool.{cases_eq}
use Rattle.std.proofs.lemmas.Cmp.{nat_cmp_total}
use Rattle.outside_io.specs.Swap.{Blocks}
use Rattle.chain_owners.specs.Counts.{Continues, Counts, Grows, IsFullOver}
use Rattle.chain_owners.specs.Held.{Held, disowned, length_of, max_owners, owned, owners_of, with_tile, without_tile}
use Rattle.chain_owners.specs.Values.{Named}
use Rattle.chain_owners.proofs.HeldLaws.{len-put, len-removed}
use Rattle.chain_owners.proofs.Names.{get_elsewhere, get_gone, get_here, get_left}
use Rattle.chain_owners.proofs.Ownership.{disowned-fewer, disowned-last, disowned-stopped, owned-more, owned-stopped}
use Rattle.chain_owners.specs.declared.swap_refused.SwapRefused.{SwapRefused}
use Rattle.chain_owners.specs.declared.swap_refused.SwapRefused.TheVariants as refusals
use Rattle.chain_owners.specs.Cause.{HasSwapCause}
use Rattle.chain_contracts.specs.Tiles.{OnFull, emptied}
use Rattle.tile_chain.specs.OwnedTiles.{HaveOwners, with_counts}
use Rattle.tile_chain.specs.declared.cache_handler.CacheHandler.{CacheHandler}
use Rattle.tile_chain.specs.declared.disk_handler.DiskHandler.{DiskHandler}
use Rattle.tile_chain.specs.declared.empty_handler.EmptyHandler.{EmptyHandler}
use Rattle.tile_chain.specs.DiskTiles.{disk_held}
use Rattle.tile_chain.specs.Overlay.{IsCrowded, overlay}
use Rattle.tile_chain.proofs.Tiles.{map-absent, map-out}

module _ (held : Held) (owners : Named ℕ) (name : ℕ) (counted : HaveOwners held owners) where
  -- another number of owners is a number of owners
  pub counted-set : (new : Named ℕ) (count : ℕ) → IsSome (length_of held name) → new ≡ map.insert owners name count → HaveOwners held new
  counted-set new count there is = λ q. ap (λ m. is_some (map.get m q)) is ∙ elim (cases_eq q name) [
    | inl same ↦ ap (λ n. is_some (map.get (map.insert owners name count) n)) same ∙ ap is_some (get_here owners name count)
        ∙ sym there ∙ sym (ap (λ n. is_some (length_of held n)) same)
    | inr ne ↦ ap is_some (get_elsewhere owners name count q ne) ∙ counted q
  ]

  -- a name that comes with one owner has one
  pub counted-added : (new : Held) (counts : Named ℕ) (bytes : List ℕ) → new ≡ with_tile held name bytes → counts ≡ map.insert owners name 1
      → HaveOwners new counts
  counted-added new counts bytes tile count = λ q.
      ap (λ m. is_some (map.get m q)) count
      ∙ elim (cases_eq q name) [
        | inl same ↦ ap (λ n. is_some (map.get (map.insert owners name 1) n)) same ∙ ap is_some (get_here owners name 1)
            ∙ sym (ap is_some (get_here held.lengths name (length bytes))) ∙ sym (ap (λ n. is_some (length_of (with_tile held name bytes) n)) same)
        | inr ne ↦ ap is_some (get_elsewhere owners name 1 q ne) ∙ counted q ∙ sym (ap is_some (get_elsewhere held.lengths name (length bytes) q ne))
      ]
      ∙ sym (ap (λ h. is_some (length_of h q)) tile)

  -- a name that goes with its owners has none
  pub counted-removed : (new : Held) (counts : Named ℕ) → new ≡ without_tile held name → counts ≡ map.remove owners name → HaveOwners new counts
  counted-removed new counts tile count = λ q.
      ap (λ m. is_some (map.get m q)) count
      ∙ elim (cases_eq q name) [
        | inl same ↦ ap (λ n. is_some (map.get (map.remove owners name) n)) same ∙ ap is_some (get_gone owners name)
            ∙ sym (ap is_some (get_gone held.lengths name)) ∙ sym (ap (λ n. is_some (length_of (without_tile held name) n)) same)
        | inr ne ↦ ap is_some (get_left owners name q ne) ∙ counted q ∙ sym (ap is_some (get_left held.lengths name q ne))
      ]
      ∙ sym (ap (λ h. is_some (length_of h q)) tile)

  -- a name whose bytes are replaced keeps its owners
  pub counted-kept : (new : Held) (bytes : List ℕ) (answer : Result (Unit {0}) SwapRefused) → IsSome (length_of held name)
      → OnOk answer (new ≡ with_tile held name bytes) → OnErr answer (new ≡ held) → HaveOwners new owners
  counted-kept new bytes (Ok done) there tile same = λ q.
      elim (cases_eq q name) [
        | inl is ↦ counted q ∙ ap (λ n. is_some (length_of held n)) is ∙ there
            ∙ sym (ap is_some (get_here held.lengths name (length bytes))) ∙ sym (ap (λ n. is_some (length_of (with_tile held name bytes) n)) is)
        | inr ne ↦ counted q ∙ sym (ap is_some (get_elsewhere held.lengths name (length bytes) q ne))
      ]
      ∙ sym (ap (λ h. is_some (length_of h q)) tile)
  counted-kept new bytes (Err refused) there tile same = subst (λ h. HaveOwners h owners) (sym same) counted

-- all have their owners where the tiles and the owners are as they were
pub counted-same : (held tiles : Held) (owners counts : Named ℕ) → HaveOwners held owners → tiles ≡ held → counts ≡ owners → HaveOwners tiles counts
counted-same held tiles owners counts counted tile count =
    subst (λ h. HaveOwners h counts) (sym tile) (subst (HaveOwners held) (sym count) counted)

-- a number of owners that was added and removed leaves all as they were
pub added-removed : (owners added removed : Named ℕ) (name : ℕ) → map.get owners name ≡ None → added ≡ map.insert owners name 1
    → removed ≡ map.remove added name → removed ≡ owners
added-removed owners added removed name none put out =
    out ∙ ap (λ (m : Named ℕ). map.remove m name) put ∙ map-out owners name 1 ∙ map-absent owners name none

module _ (held : Held) (owners new : Named ℕ) (name count : ℕ) (is : count ≡ unwrap_or (map.get owners name) 0) where
  not-most : count < max_owners → owners_of (with_counts held owners) name ≢ max_owners
  not-most below same = absurd (omega (arith, is ∙ same, below))

  pub owned-held : count < max_owners → new ≡ map.insert owners name (count + 1) → with_counts held new ≡ owned (with_counts held owners) name
  owned-held below set =
      ap (with_counts held) (set ∙ ap (λ n. map.insert owners name (n + 1)) is)
      ∙ sym (owned-more (with_counts held owners) name (not-most below))

  pub stopped-held : max_owners ≤ count → count ≤ max_owners → with_counts held owners ≡ owned (with_counts held owners) name
  stopped-held above below = sym (owned-stopped (with_counts held owners) name (sym is ∙ (omega arith)))

  pub kept-held : count ≡ max_owners → with_counts held owners ≡ disowned (with_counts held owners) name
  kept-held most = sym (disowned-stopped (with_counts held owners) name (sym is ∙ most))

  pub fewer-held : count ≢ max_owners → 1 < count → new ≡ map.insert owners name (count - 1)
      → with_counts held new ≡ disowned (with_counts held owners) name
  fewer-held other more set =
      ap (with_counts held) (set ∙ ap (λ n. map.insert owners name (n - 1)) is)
      ∙ sym (disowned-fewer (with_counts held owners) name (λ same. other (is ∙ same)) (omega (arith, is, more)))

  pub last-held : (tiles : Held) → count ≤ 1 → tiles ≡ without_tile held name → new ≡ map.remove owners name
      → with_counts tiles new ≡ disowned (with_counts held owners) name
  last-held tiles last gone removed =
      ap₂ with_counts gone removed ∙ sym (disowned-last (with_counts held owners) name (omega (arith, is, last)))

-- ---- counts

module _ (old new : Counts) (held tiles : Held) (name : ℕ) (bytes : List ℕ) (before : old.names ≡ map.len held.lengths)
    (after : new.names ≡ map.len tiles.lengths) (continues : Continues old new) where
  pub grows-removed : tiles ≡ without_tile held name → Grows 0 old new
  grows-removed gone = record {
    continues = continues;
    names = omega (arith, before, after, ap (λ (h : Held). map.len h.lengths) gone, len-removed held.lengths name);
  }

  pub grows-added : tiles ≡ with_tile held name bytes → Grows 1 old new
  grows-added put = record {
    continues = continues;
    names = omega (arith, before, after, ap (λ (h : Held). map.len h.lengths) put, len-put held.lengths name (length bytes));
  }

  pub grows-same : tiles ≡ held → Grows 0 old new
  grows-same same = record {
    continues = continues;
    names = omega (arith, before, after, ap (λ (h : Held). map.len h.lengths) same);
  }

-- a name whose bytes are replaced is no name more
pub len-known : (held : Held) (name : ℕ) (bytes : List ℕ) → IsSome (length_of held name)
    → map.len (with_tile held name bytes).lengths ≡ map.len held.lengths
len-known held name bytes there =
    len-insert nat_cmp_total held.lengths name (length bytes)
    ∙ ap (λ b. cond b (map.len held.lengths) (map.len held.lengths + 1)) there

pub grows-kept : (old new : Counts) (held tiles : Held) (name : ℕ) (bytes : List ℕ) → old.names ≡ map.len held.lengths
    → new.names ≡ map.len tiles.lengths → Continues old new → IsSome (length_of held name) → (answer : Result (Unit {0}) SwapRefused)
    → OnOk answer (tiles ≡ with_tile held name bytes) → OnErr answer (tiles ≡ held) → Grows 0 old new
grows-kept old new held tiles name bytes before after continues there (Ok done) put same = record {
  continues = continues;
  names = omega (arith, before, after, ap (λ (h : Held). map.len h.lengths) put, len-known held name bytes there);
}
grows-kept old new held tiles name bytes before after continues there (Err refused) put same =
    grows-same old new held tiles name bytes before after continues same

-- What excuses a refusal of a chain whose cache is emptied excuses it where the cache is full, and
-- there are more names than it keeps.
full-crowded : (used : Option ℕ) (capacity resident names more needed longest : ℕ) → IsFullOver used 0 names needed longest
    → IsCrowded resident capacity names → names ≤ more → IsFullOver used capacity more needed longest
full-crowded None capacity resident names more needed longest full crowded le = full
full-crowded (Some used) capacity resident names more needed longest full crowded le = record {
  short = full.short;
  past = omega (arith, crowded.past, le);
  room = omega (arith, full.room, le);
}

pub cause-crowded : (old new : Counts) (resident names more : ℕ) (refused : SwapRefused) → Continues old new
    → HasSwapCause (emptied old) new names refused → OnFull (IsCrowded resident new.capacity names) refused → names ≤ more → HasSwapCause old new more refused
cause-crowded old new resident names more refusals.SwapFault continues cause crowded le = cause
cause-crowded old new resident names more (refusals.SwapFull needed longest) continues cause crowded le =
    full-crowded old.used old.capacity resident names more needed longest cause
    (record { full = crowded.full ∙ continues.capacity; past = omega (arith, crowded.past, continues.capacity) }) le
cause-crowded old new resident names more refusals.NoMemory continues cause crowded le = tt

pub caused-crowded : (old new : Counts) (resident names more : ℕ) (answer : Result (Unit {0}) SwapRefused) → Continues old new
    → IfErr answer (HasSwapCause (emptied old) new names) → IfErr answer (OnFull (IsCrowded resident new.capacity names)) → names ≤ more
    → IfErr answer (HasSwapCause old new more)
caused-crowded old new resident names more (Ok done) continues cause crowded le = tt
caused-crowded old new resident names more (Err refused) continues cause crowded le =
    cause-crowded old new resident names more refused continues cause crowded le

-- a name more at most
pub len-added : (held : Held) (name : ℕ) (bytes : List ℕ) → map.len (with_tile held name bytes).lengths ≤ map.len held.lengths + 1
len-added held name bytes = len-put held.lengths name (length bytes)

-- what tiles hold, zeros where none is, then those in memory, then those on a disk
abbrev pub held_over : {D : Type 0} {t : _} {m : _} (blocks : D → Option Blocks) (tiles : EmptyHandler (CacheHandler (DiskHandler D) t m)) → Held
held_over blocks tiles = overlay tiles.below.tiles.entries (disk_held tiles.below.below.store.placement (blocks tiles.below.below.store.disk))
