-- A tile that moves from a cache to what is below it.
use Rattle.std.proofs.Common.{◌≡◌, ℕ, ◌+◌, ◌-◌, ◌<◌, ◌≤◌, eqb, List, [], ◌∷◌, ◌++◌, length, take, Option, Some, None, is_some, true≢false, true, false, cond, IfSome, Result, Ok, Err, OnOk, OnErr, refl, sym, ap, ◌∙◌, subst, inl, inr, length-take, arith}
use Rattle.std.specs.Cmp.{nat_eq_equiv}
use Rattle.std.specs.FinMap as map
use Rattle.std.specs.FinMap.{len-insert}
use Rattle.std.specs.List.{IsDistinct}
use Rattle.std.specs.Map.{keys_of, lookup, remove_entry}
use Rattle.std.proofs.lemmas.Bool.{cases_eq, eq-eqb, ne_eqb}
use Rattle.std.proofs.lemmas.Cmp.{nat_cmp_total}
use Rattle.std.proofs.lemmas.Map.{lookup-none}
use Rattle.std.proofs.lemmas.Map.Entries.{lookup_from_place, none_past_head}
use Rattle.std.proofs.lemmas.Map.Keys.{IsDistinct-tail}
use Rattle.lru.specs.LruCache.{LruCache, last_entry, lru_cache, promoted, put_entries}
use Rattle.lru.proofs.CallerLemmas.{lookup-put_entries}
use Rattle.chain_owners.specs.Chain.{HasSameNames}
use Rattle.chain_owners.specs.Counts.{Continues, Counts}
use Rattle.chain_owners.specs.Held.{Held, bytes_of, length_of, with_tile, without_tile}
use Rattle.chain_owners.specs.Room.{Room}
use Rattle.chain_owners.proofs.Names.{get_gone}
use Rattle.chain_owners.specs.declared.swap_refused.SwapRefused.{SwapRefused}
use Rattle.chain_owners.specs.declared.swap_refused.SwapRefused.TheVariants as refusals
use Rattle.chain_owners.specs.Cause.{HasSwapCause}
use Rattle.chain_owners.proofs.Causes.{cause-before, cause-more}
use Rattle.tile_chain.specs.Overlay.{IsCache, IsCrowded, IsShown, overlay}
use Rattle.chain_contracts.specs.Tiles.{OnFull, Reads, ReportsPut, ReportsRoom, emptied}
use Rattle.tile_chain.proofs.NameCounts.{len-inserted}
use Rattle.tile_chain.proofs.Tiles.{put-known}
use Rattle.tile_chain.proofs.EntryCounts.{length-promoted, length-put, length-removed}
use Rattle.tile_chain.proofs.Shown.{shown-beneath, shown-less, shown-out, shown-put, shown-same}
use Rattle.tile_chain.proofs.Overlays.{names-below, overlay-exposes, overlay-has, overlay-hides, overlay-lacks, overlay-last, overlay-promoted, overlay-put, overlay-removed, overlay-shadow, split_last}

-- a tile of one map is one of another that has its lengths
pub reports-above : (inner outer : Held) (store : Option Room) (refused : SwapRefused)
    → ((q len : ℕ) → length_of inner q ≡ Some len → length_of outer q ≡ Some len)
    → ReportsRoom inner store refused → ReportsRoom outer store refused
reports-above inner outer store refusals.SwapFault agrees is = tt
reports-above inner outer store (refusals.SwapFull needed found) agrees is = record {
  tile = record { name = is.tile.name; len = is.tile.len; there = agrees is.tile.name is.tile.len is.tile.there; blocks = is.tile.blocks };
  longest = is.longest;
}
reports-above inner outer store refusals.NoMemory agrees is = tt

lookup-before : (es fs : List (ℕ × List ℕ)) (k : ℕ) → lookup (eqb k) (es ++ fs) ≡ None → lookup (eqb k) es ≡ None
lookup-before [] fs k none = refl
lookup-before (e ∷ es) fs k none = elim (cases_eq k e.0) [
  | inl same ↦ absurd (let no : Some e.1 ≡ None = rw (eq-eqb k e.0 same) at none in cc)
  | inr ne ↦ rw (ne_eqb k e.0 ne) (lookup-before es fs k (rw (ne_eqb k e.0 ne) at none))
]

known-shown : (es : List (ℕ × List ℕ)) (name : ℕ) (bytes : List ℕ) (below : Held) → HasSameNames below → IsShown below (overlay es below)
    → lookup (eqb name) es ≡ Some bytes → is_some (length_of below name) ≡ true → with_tile below name bytes ≡ below
known-shown es name bytes below same shown is there =
    let has = overlay-has name es bytes below is in
    put-known below name bytes same (known-length (length_of below name) refl there) (known-bytes (bytes_of below name) refl)
  where
    known-length : (o : Option ℕ) → length_of below name ≡ o → is_some o ≡ true → length_of below name ≡ Some (length bytes)
    known-length None is' there' = absurd (true≢false (sym there'))
    known-length (Some len) is' there' = is' ∙ sym (shown.lengths name len is') ∙ (overlay-has name es bytes below is).0

    known-bytes : (o : Option (List ℕ)) → bytes_of below name ≡ o → IfSome o (λ b. bytes ≡ b)
    known-bytes None is' = tt
    known-bytes (Some b) is' = rw (shown.bytes name b is') at (overlay-has name es bytes below is).1

module _ (es : List (ℕ × List ℕ)) (name : ℕ) (bytes : List ℕ) (below : Held) (last : last_entry es ≡ Some (name, bytes)) where
  pub moved-held : (new : Held) → new ≡ with_tile below name bytes → overlay (take (length es - 1) es) new ≡ overlay es below
  moved-held new is =
      ap (overlay (take (length es - 1) es)) is ∙ sym (overlay-last (take (length es - 1) es) (name, bytes) below)
      ∙ ap (λ fs. overlay fs below) (sym (split_last es (name, bytes) last))

  pub lacks-moved : (k : ℕ) → lookup (eqb k) es ≡ None → lookup (eqb k) (take (length es - 1) es) ≡ None
  lacks-moved k none =
      lookup-before (take (length es - 1) es) ((name, bytes) ∷ []) k (ap (lookup (eqb k)) (sym (split_last es (name, bytes) last)) ∙ none)

  names-moved : map.len (with_tile below name bytes).lengths ≤ map.len (overlay es below).lengths
  names-moved = omega (arith, names-below (take (length es - 1) es) (with_tile below name bytes), ap (λ (h : Held). map.len h.lengths) (moved-held (with_tile below name bytes) refl))

  in-memory : IsDistinct eqb (keys_of es) → lookup (eqb name) es ≡ Some bytes
  in-memory apart = lookup_from_place nat_eq_equiv es (length es - 1) name bytes apart last

  pub laws-moved : (capacity : ℕ) (new : Held) → new ≡ with_tile below name bytes → IsDistinct eqb (keys_of es)
      → IsCache es capacity below → IsCache (take (length es - 1) es) capacity new
  laws-moved capacity new is apart laws = record {
    fits = omega (arith, length-take {A = ℕ × List ℕ}, laws.fits);
    shown = subst (λ held. IsShown held (overlay (take (length es - 1) es) new)) (sym is)
        (shown-same (with_tile below name bytes) (overlay es below) (overlay (take (length es - 1) es) new) (moved-held new is)
        (shown-put below (overlay es below) name laws.shown bytes (overlay-has name es bytes below (in-memory apart)).0
        (λ exposed. overlay-exposes name es bytes below exposed (in-memory apart))));
  }

  -- a tile in memory whose name is below is the one that is there
  pub last-known : (capacity : ℕ) → HasSameNames below → IsDistinct eqb (keys_of es) → IsCache es capacity below
      → is_some (length_of below name) ≡ true → with_tile below name bytes ≡ below
  last-known capacity same apart laws there = known-shown es name bytes below same laws.shown (in-memory apart) there

  pub moved-cause : (old now : Counts) (refused : SwapRefused) → HasSwapCause old now (map.len (with_tile below name bytes).lengths) refused
      → HasSwapCause old now (map.len (overlay es below).lengths) refused
  moved-cause old now refused = cause-more old now _ _ refused names-moved

  pub moved-report : (capacity : ℕ) (store : Option Room) (refused : SwapRefused) → IsDistinct eqb (keys_of es) → IsCache es capacity below
      → ReportsPut below bytes store refused → ReportsRoom (overlay es below) store refused
  moved-report capacity store refusals.SwapFault apart laws is = tt
  moved-report capacity store (refusals.SwapFull needed found) apart laws is = record {
    tile = elim is.tile [
      | inl tile ↦ record { name = tile.name; len = tile.len; there = laws.shown.lengths tile.name tile.len tile.there; blocks = tile.blocks }
      | inr own ↦ record {
        name = name;
        len = length bytes;
        there = (overlay-has name es bytes below (in-memory apart)).0;
        blocks = own;
      }
    ];
    longest = is.longest;
  }
  moved-report capacity store refusals.NoMemory apart laws is = tt

pub is-none : {X : Type 0} (o : Option X) → is_some o ≡ false → o ≡ None
is-none None is = refl
is-none (Some x) is = absurd (true≢false is)

module _ (es : List (ℕ × List ℕ)) (capacity name : ℕ) (bytes : List ℕ) (below new : Held) (room : lookup (eqb name) es ≡ None → length es < capacity)
    (is : new ≡ without_tile below name) where
  abbrev inserted : List (ℕ × List ℕ)
  inserted = put_entries eqb (lru_cache es capacity) name bytes

  pub insert-held : overlay inserted new ≡ with_tile (overlay es below) name bytes
  insert-held =
      ap (overlay inserted) is
      ∙ overlay-hides name inserted bytes below (lookup-put_entries eqb (lru_cache es capacity) name bytes nat_eq_equiv)
      ∙ overlay-put name es capacity bytes below room

  pub insert-laws : IsCache es capacity below → IsCache inserted capacity new
  insert-laws laws = record {
    fits = length-put es capacity name bytes room laws.fits;
    shown = subst (λ held. IsShown held (overlay inserted new)) (sym is)
        (shown-same (without_tile below name) (with_tile (overlay es below) name bytes) (overlay inserted new) insert-held
        (shown-beneath below (overlay es below) name laws.shown bytes));
  }

-- a tile that is kept as it is below
module _ (es : List (ℕ × List ℕ)) (capacity name : ℕ) (bytes : List ℕ) (below : Held) (room : lookup (eqb name) es ≡ None → length es < capacity)
    (known : with_tile (overlay es below) name bytes ≡ overlay es below) where
  pub brought-held : overlay (put_entries eqb (lru_cache es capacity) name bytes) below ≡ overlay es below
  brought-held = overlay-put name es capacity bytes below room ∙ known

  abbrev brought : LruCache ℕ (List ℕ)
  brought = lru_cache (put_entries eqb (lru_cache es capacity) name bytes) capacity

  pub brought-laws : {X E : Type 0} (answer : Result X E) (new : LruCache ℕ (List ℕ)) → OnOk answer (new ≡ brought) → OnErr answer (new ≡ lru_cache es capacity)
      → IsCache es capacity below → IsCache new.entries new.cap below
  brought-laws (Ok done) new put left laws = subst (λ (cache : LruCache ℕ (List ℕ)). IsCache cache.entries cache.cap below) (sym put) (record {
    fits = length-put es capacity name bytes room laws.fits;
    shown = shown-same below (overlay es below) (overlay brought.entries below) brought-held laws.shown;
  })
  brought-laws (Err refused) new put left laws = subst (λ (cache : LruCache ℕ (List ℕ)). IsCache cache.entries cache.cap below) (sym left) laws

pub promoted-laws : (es : List (ℕ × List ℕ)) (capacity name : ℕ) (below : Held) → IsCache es capacity below
    → IsCache (promoted (eqb name) es) capacity below
promoted-laws es capacity name below laws = record {
  fits = omega (arith, laws.fits, length-promoted (eqb name) es);
  shown = shown-same below (overlay es below) (overlay (promoted (eqb name) es) below) (overlay-promoted name es below) laws.shown;
}

module _ (es : List (ℕ × List ℕ)) (capacity name : ℕ) (below new : Held) (apart : IsDistinct eqb (keys_of es)) (is : new ≡ without_tile below name) where
  pub removed-held : overlay (remove_entry (eqb name) es) new ≡ without_tile (overlay es below) name
  removed-held = ap (overlay (remove_entry (eqb name) es)) is ∙ overlay-removed name es below apart

  pub removed-laws : IsCache es capacity below → IsCache (remove_entry (eqb name) es) capacity new
  removed-laws laws = record {
    fits = omega (arith, laws.fits, length-removed (eqb name) es);
    shown = subst (λ held. IsShown held (overlay (remove_entry (eqb name) es) new)) (sym is)
        (shown-same (without_tile below name) (without_tile (overlay es below) name) (overlay (remove_entry (eqb name) es) new) removed-held
        (shown-out below (overlay es below) name laws.shown));
  }

-- a tile in memory that gives up its place below is the same from above
module _ (es : List (ℕ × List ℕ)) (name : ℕ) (bytes : List ℕ) (below new : Held) (there : lookup (eqb name) es ≡ Some bytes) (is : new ≡ without_tile below name) where
  pub given_up-held : overlay es new ≡ overlay es below
  given_up-held = ap (overlay es) is ∙ overlay-hides name es bytes below there

  pub given_up-laws : (capacity : ℕ) → IsCache es capacity below → IsCache es capacity new
  given_up-laws capacity laws = record {
    fits = laws.fits;
    shown = subst (λ held. IsShown held (overlay es new)) (sym is)
        (shown-same (without_tile below name) (overlay es below) (overlay es new) given_up-held (shown-less below (overlay es below) name laws.shown));
  }

-- ---- names of a full cache

step : (es : List (ℕ × List ℕ)) (name : ℕ) (bytes : List ℕ) (below : Held) → lookup (eqb name) es ≡ None
    → length es ≤ map.len (overlay es (without_tile below name)).lengths → length es + 1 ≤ map.len (with_tile (overlay es below) name bytes).lengths
step es name bytes below none le =
    let missing : map.get (overlay es (without_tile below name)).lengths name ≡ None =
    (overlay-lacks name es (without_tile below name) none).0 ∙ get_gone below.lengths name in
    let more : map.len (with_tile (overlay es (without_tile below name)) name bytes).lengths ≡ map.len (overlay es (without_tile below name)).lengths + 1 =
    len-insert nat_cmp_total (overlay es (without_tile below name)).lengths name (length bytes)
    ∙ ap (λ o. cond (is_some o) (map.len (overlay es (without_tile below name)).lengths) (map.len (overlay es (without_tile below name)).lengths + 1)) missing in
    omega (arith, le, more, ap (λ (h : Held). map.len h.lengths) (overlay-shadow name es bytes below))

distinct-names : (es : List (ℕ × List ℕ)) (below : Held) → IsDistinct eqb (keys_of es) → length es ≤ map.len (overlay es below).lengths
distinct-names [] below apart = omega arith
distinct-names (e ∷ es) below apart =
    omega (
      arith,
      step es e.0 e.1 below
          (lookup-none (eqb e.0) es (none_past_head nat_eq_equiv e.0 e es apart (nat_eq_equiv.refl e.0)))
          (distinct-names es (without_tile below e.0) (IsDistinct-tail eqb e.0 (keys_of es) apart)),
    )

-- a name that isn't in memory is one more than those that are
pub one-more-name : (es : List (ℕ × List ℕ)) (name : ℕ) (bytes : List ℕ) (below : Held) → IsDistinct eqb (keys_of es) → lookup (eqb name) es ≡ None
    → length es + 1 ≤ map.len (with_tile (overlay es below) name bytes).lengths
one-more-name es name bytes below apart none = step es name bytes below none (distinct-names es (without_tile below name) apart)

-- what the room for a tile that is put reports, and why it isn't there
pub put-report : (held : Held) (bytes : List ℕ) (store : Option Room) (refused : SwapRefused) → ReportsRoom held store refused → ReportsPut held bytes store refused
put-report held bytes store refusals.SwapFault is = tt
put-report held bytes store (refusals.SwapFull needed found) is = record { tile = inl is.tile; longest = is.longest }
put-report held bytes store refusals.NoMemory is = tt

pub on-full : (P : Type 0) (refused : SwapRefused) → P → OnFull P refused
on-full P refusals.SwapFault p = tt
on-full P (refusals.SwapFull needed found) p = p
on-full P refusals.NoMemory p = tt

pub put-cause : (held : Held) (name : ℕ) (bytes : List ℕ) (old now : Counts) (refused : SwapRefused) → HasSwapCause old now (map.len held.lengths) refused
    → HasSwapCause old now (map.len (with_tile held name bytes).lengths) refused
put-cause held name bytes old now refused = cause-more old now _ _ refused (len-inserted held.lengths name (length bytes))

-- what excuses a refusal excuses it also where other calls came before
pub cause-since : (first second last : Counts) (names : ℕ) (refused : SwapRefused) → Continues first second
    → HasSwapCause (emptied second) last names refused → HasSwapCause (emptied first) last names refused
cause-since first second last names refused continues =
    cause-before (emptied first) (emptied second) last second.names names refused (record {
      continues = record { used = continues.used; capacity = refl; later = continues.later };
      names = omega arith;
    })

-- a name that is there, but not in memory, is one more than those that are
pub one-of-more : (es : List (ℕ × List ℕ)) (name len : ℕ) (below : Held) → IsDistinct eqb (keys_of es) → lookup (eqb name) es ≡ None
    → length_of (overlay es below) name ≡ Some len → length es + 1 ≤ map.len (overlay es below).lengths
one-of-more es name len below apart none known =
    let same : map.len (with_tile (overlay es below) name []).lengths ≡ map.len (overlay es below).lengths =
    len-insert nat_cmp_total (overlay es below).lengths name 0
    ∙ ap (λ o. cond (is_some o) (map.len (overlay es below).lengths) (map.len (overlay es below).lengths + 1)) known in
    omega (arith, one-more-name es name [] below apart none, same)

-- a tile that is read below is read
pub reads-above : (es : List (ℕ × List ℕ)) (name len : ℕ) (tile : List ℕ) (below outer : Held) → overlay es below ≡ outer
    → lookup (eqb name) es ≡ None → length_of outer name ≡ Some len → Reads below name len tile → Reads outer name len tile
reads-above es name len tile below outer is none known read = record {
  length = read.length;
  bytes = subst (λ o. IfSome o (λ b. tile ≡ b)) (sym (overlay-lacks name es below none).1 ∙ ap (λ held. bytes_of held name) is) read.bytes;
  absent = λ missing. absurd (some-none (sym known ∙ missing));
}
  where
    some-none : Some len ≡ None → ⊥
    some-none wrong = cc

-- a tile that isn't in memory is below
pub known-below : (es : List (ℕ × List ℕ)) (name len : ℕ) (below : Held) → lookup (eqb name) es ≡ None
    → length_of (overlay es below) name ≡ Some len → length_of below name ≡ Some len
known-below es name len below none known = sym (overlay-lacks name es below none).0 ∙ known

-- what excuses a refusal below excuses it above, where there are as many names at least
pub cause-above : (es : List (ℕ × List ℕ)) (below : Held) (old now : Counts) (refused : SwapRefused) → old.names ≡ map.len below.lengths
    → HasSwapCause (emptied old) now old.names refused → HasSwapCause (emptied old) now (map.len (overlay es below).lengths) refused
cause-above es below old now refused counted =
    cause-more (emptied old) now old.names (map.len (overlay es below).lengths) refused (omega (arith, names-below es below, counted))

-- a cache without room for a name that is there has fewer tiles than there are names
pub crowded-for : (es : List (ℕ × List ℕ)) (capacity name len : ℕ) (below : Held) → length es ≡ capacity → IsDistinct eqb (keys_of es)
    → lookup (eqb name) es ≡ None → length_of (overlay es below) name ≡ Some len → IsCrowded (length es) capacity (map.len (overlay es below).lengths)
crowded-for es capacity name len below full apart none known = record {
  full = full;
  past = omega (arith, full, one-of-more es name len below apart none known);
}

-- a tile that was read is what its name has
pub read-known : (outer middle : Held) (name len : ℕ) (tile : List ℕ) → middle ≡ outer → HasSameNames outer → length_of outer name ≡ Some len
    → Reads outer name len tile → with_tile middle name tile ≡ middle
read-known outer middle name len tile same names known read =
    ap (λ held. with_tile held name tile) same
    ∙ put-known outer name tile names (known ∙ ap (λ n. Some n) (sym read.length)) read.bytes ∙ sym same

-- a tile that is found in memory is read
pub reads-found : (es : List (ℕ × List ℕ)) (name len : ℕ) (tile : List ℕ) (below : Held) → lookup (eqb name) es ≡ Some tile
    → length_of (overlay es below) name ≡ Some len → Reads (overlay es below) name len tile
reads-found es name len tile below found known =
    let has = overlay-has name es tile below found in
    record {
      length = some-same (length tile) len (sym has.0 ∙ known);
      bytes = has.1;
      absent = λ missing. absurd (some-none (length tile) (sym has.0 ∙ missing));
    }
  where
    some-same : (m n : ℕ) → Some m ≡ Some n → m ≡ n
    some-same m n is = cc

    some-none : (m : ℕ) → Some m ≡ None → ⊥
    some-none m wrong = cc

some-of : {X : Type 0} (o : Option X) → is_some o ≡ true → (x : X) × (o ≡ Some x)
some-of None is = absurd (true≢false (sym is))
some-of (Some x) is = (x, refl)

-- a name is there where it is in memory, and otherwise where it is below
pub has-above : (es : List (ℕ × List ℕ)) (name : ℕ) (below : Held) → is_some (lookup (eqb name) es) ≡ true
    → is_some (length_of (overlay es below) name) ≡ true
has-above es name below there =
    let found = some-of (lookup (eqb name) es) there in
    ap is_some (overlay-has name es found.0 below found.1).0

pub has-below : (es : List (ℕ × List ℕ)) (name : ℕ) (below : Held) → is_some (lookup (eqb name) es) ≡ false
    → is_some (length_of (overlay es below) name) ≡ is_some (length_of below name)
has-below es name below missing = ap is_some (overlay-lacks name es below (is-none (lookup (eqb name) es) missing)).0
