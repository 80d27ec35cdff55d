-- What a cache holds after a tile moved, came or went.
use Rattle.std.proofs.Common.{◌≡◌, ◌≢◌, ℕ, ◌+◌, ◌-◌, ◌<◌, ◌≤◌, eqb, zero, suc, slice_get, take_all, List, [], ◌∷◌, ◌++◌, length, take, Option, Some, None, IfSome, is_some, true, true≢false, refl, sym, ap, ap₂, ◌∙◌, inl, inr, arith}
use Rattle.std.specs.Option.{option_and_then, option_map, option_map_or}
use Rattle.std.specs.FinMap as map
use Rattle.std.specs.Cmp.{nat_eq_equiv}
use Rattle.std.specs.List.{IsDistinct}
use Rattle.std.specs.Map.{keys_of, lookup, lookup_entry, remove_entry}
use Rattle.std.proofs.lemmas.Bool.{cases_eq, eq-eqb, ne_eqb}
use Rattle.std.proofs.lemmas.Map.{lookup-none}
use Rattle.std.proofs.lemmas.Map.Entries.{none_past_head}
use Rattle.std.proofs.lemmas.Map.Keys.{IsDistinct-tail}
use Rattle.lru.specs.LruCache.{last_entry, lru_cache, promoted, put_entries}
use Rattle.chain_owners.specs.Held.{Held, bytes_of, length_of, with_tile, without_tile}
use Rattle.chain_owners.specs.Values.{Named}
use Rattle.chain_owners.proofs.Names.{get_elsewhere, get_here}
use Rattle.tile_chain.specs.Overlay.{overlay}
use Rattle.tile_chain.proofs.NameCounts.{is_some-map, len-inserted}
use Rattle.tile_chain.proofs.Tiles.{out-put, out-swap, put-fill, put-swap, put-twice}

abbrev Entries : Type 0
Entries = List (ℕ × List ℕ)

-- the last of the tiles is as good below
pub overlay-last : (es : Entries) (e : ℕ × List ℕ) (below : Held) → overlay (es ++ e ∷ []) below ≡ overlay es (with_tile below e.0 e.1)
overlay-last [] e below = refl
overlay-last (f ∷ es) e below = ap (λ held. with_tile held f.0 f.1) (overlay-last es e below)

-- a list with a last element is what is before it, and that
split_at : (es : Entries) (i : ℕ) (e : ℕ × List ℕ) → slice_get es i ≡ Some e → i + 1 ≡ length es → es ≡ take i es ++ e ∷ []
split_at [] i e is len = absurd (omega (arith, len))
split_at (f ∷ []) zero e is len = let same : f ≡ e = let some : Some f ≡ Some e = is in cc in ap (λ g. g ∷ []) same
split_at (f ∷ g ∷ es) zero e is len = absurd (omega (arith, len))
split_at (f ∷ es) (suc i) e is len = ap (λ rest. f ∷ rest) (split_at es i e is (omega (arith, len)))

pub split_last : (es : Entries) (e : ℕ × List ℕ) → last_entry es ≡ Some e → es ≡ take (length es - 1) es ++ e ∷ []
split_last [] e is = absurd (let no : None ≡ Some e = is in cc)
split_last (f ∷ es) e is = split_at (f ∷ es) (length (f ∷ es) - 1) e is (omega arith)

-- the names of a cache are those below at least
pub names-below : (es : Entries) (below : Held) → map.len below.lengths ≤ map.len (overlay es below).lengths
names-below [] below = omega arith
names-below (e ∷ es) below = omega (arith, names-below es below, len-inserted (overlay es below).lengths e.0 (length e.1))

module _ (name : ℕ) where
  bytes-elsewhere : (c : Option (Named (List ℕ))) (k : ℕ) (v : List ℕ) → name ≢ k
      → option_and_then (λ content. map.get content name) (option_map (λ (m : Named (List ℕ)). map.insert m k v) c)
      ≡ option_and_then (λ content. map.get content name) c
  bytes-elsewhere None k v ne = refl
  bytes-elsewhere (Some m) k v ne = get_elsewhere m k v name ne

  -- the tile of a name is as good in front of all others
  pub overlay-found : (es : Entries) (e : ℕ × List ℕ) (below : Held) → lookup_entry (eqb name) es ≡ Some e
      → (e.0 ≡ name) × (with_tile (overlay (remove_entry (eqb name) es) below) name e.1 ≡ overlay es below)
  overlay-found [] e below is = absurd (let no : None ≡ Some e = is in cc)
  overlay-found (f ∷ es) e below is = elim (cases_eq name f.0) [
    | inl same ↦
        let found = eq-eqb name f.0 same in
        let at : f ≡ e = let some : Some f ≡ Some e = rw found at is in cc in (
          ap (λ (x : ℕ × List ℕ). x.0) (sym at) ∙ sym same,
          rw found (ap₂ (λ n t. with_tile (overlay es below) n t) same (ap (λ (x : ℕ × List ℕ). x.1) (sym at))),
        )
    | inr ne ↦
        let passed = ne_eqb name f.0 ne in
        let on = overlay-found es e below (rw passed at is) in
        (on.0, rw passed (put-swap (overlay (remove_entry (eqb name) es) below) f.0 name f.1 e.1 (λ same. ne (sym same)) ∙ ap (λ held. with_tile held f.0 f.1) on.1))
  ]

  -- a tile in memory is what a name has
  pub overlay-has : (es : Entries) (bytes : List ℕ) (below : Held) → lookup (eqb name) es ≡ Some bytes
      → (length_of (overlay es below) name ≡ Some (length bytes)) × IfSome (bytes_of (overlay es below) name) (λ b. bytes ≡ b)
  overlay-has [] bytes below is = absurd (let no : None ≡ Some bytes = is in cc)
  overlay-has (f ∷ es) bytes below is = elim (cases_eq name f.0) [
    | inl same ↦
        let at : f.1 ≡ bytes = let some : Some f.1 ≡ Some bytes = rw (eq-eqb name f.0 same) at is in cc in
        here (overlay es below) f.0 f.1 bytes same at
    | inr ne ↦ there (overlay es below) f.0 f.1 bytes ne (overlay-has es bytes below (rw (ne_eqb name f.0 ne) at is))
  ]
    where
      here-bytes : (c : Option (Named (List ℕ))) (k : ℕ) (v bytes : List ℕ) → name ≡ k → v ≡ bytes
          → IfSome (option_and_then (λ content. map.get content name) (option_map (λ (m : Named (List ℕ)). map.insert m k v) c)) (λ b. bytes ≡ b)
      here-bytes None k v bytes same at = tt
      here-bytes (Some m) k v bytes same at = rw (same, get_here m k v) (sym at)

      here : (held : Held) (k : ℕ) (v bytes : List ℕ) → name ≡ k → v ≡ bytes
          → (length_of (with_tile held k v) name ≡ Some (length bytes)) × IfSome (bytes_of (with_tile held k v) name) (λ b. bytes ≡ b)
      here held k v bytes same at = (
        ap (map.get (map.insert held.lengths k (length v))) same ∙ get_here held.lengths k (length v) ∙ ap (λ b. Some (length b)) at,
        here-bytes held.content k v bytes same at,
      )

      there : (held : Held) (k : ℕ) (v bytes : List ℕ) → name ≢ k
          → (length_of held name ≡ Some (length bytes)) × IfSome (bytes_of held name) (λ b. bytes ≡ b)
          → (length_of (with_tile held k v) name ≡ Some (length bytes)) × IfSome (bytes_of (with_tile held k v) name) (λ b. bytes ≡ b)
      there held k v bytes ne is = (
        get_elsewhere held.lengths k (length v) name ne ∙ is.0,
        rw (bytes-elsewhere held.content k v ne) is.1,
      )

  -- the same where the bytes below are exposed
  pub overlay-exposes : (es : Entries) (bytes : List ℕ) (below : Held) → is_some below.content ≡ true → lookup (eqb name) es ≡ Some bytes
      → bytes_of (overlay es below) name ≡ Some bytes
  overlay-exposes es bytes below exposed is =
      let bytes-there = (overlay-has es bytes below is).1 in
      some-bytes (bytes_of (overlay es below) name) bytes (overlay-some es bytes below exposed is) bytes-there
    where
      some-bytes : (o : Option (List ℕ)) (bytes : List ℕ) → is_some o ≡ true → IfSome o (λ b. bytes ≡ b) → o ≡ Some bytes
      some-bytes None bytes some same = absurd (true≢false (sym some))
      some-bytes (Some b) bytes some same = ap (λ x. Some x) (sym same)

      exposed-above : (es : Entries) (below : Held) → is_some below.content ≡ true → is_some (overlay es below).content ≡ true
      exposed-above [] below exposed = exposed
      exposed-above (f ∷ es) below exposed =
          is_some-map (λ (m : Named (List ℕ)). map.insert m f.0 f.1) (overlay es below).content ∙ exposed-above es below exposed

      at-head : (c : Option (Named (List ℕ))) (k : ℕ) (v : List ℕ) → name ≡ k → is_some c ≡ true
          → is_some (option_and_then (λ content. map.get content name) (option_map (λ (m : Named (List ℕ)). map.insert m k v) c)) ≡ true
      at-head None k v same some = absurd (true≢false (sym some))
      at-head (Some m) k v same some = ap (λ q. is_some (map.get (map.insert m k v) q)) same ∙ ap is_some (get_here m k v)

      overlay-some : (es : Entries) (bytes : List ℕ) (below : Held) → is_some below.content ≡ true → lookup (eqb name) es ≡ Some bytes
          → is_some (bytes_of (overlay es below) name) ≡ true
      overlay-some [] bytes below exposed is = absurd (let no : None ≡ Some bytes = is in cc)
      overlay-some (f ∷ es) bytes below exposed is = elim (cases_eq name f.0) [
        | inl same ↦ at-head (overlay es below).content f.0 f.1 same (exposed-above es below exposed)
        | inr ne ↦ ap is_some (bytes-elsewhere (overlay es below).content f.0 f.1 ne)
            ∙ overlay-some es bytes below exposed (rw (ne_eqb name f.0 ne) at is)
      ]

  -- without one in memory, a name has what is below
  pub overlay-lacks : (es : Entries) (below : Held) → lookup (eqb name) es ≡ None
      → (length_of (overlay es below) name ≡ length_of below name) × (bytes_of (overlay es below) name ≡ bytes_of below name)
  overlay-lacks [] below is = (refl, refl)
  overlay-lacks (f ∷ es) below is = elim (cases_eq name f.0) [
    | inl same ↦ absurd (let no : Some f.1 ≡ None = rw (eq-eqb name f.0 same) at is in cc)
    | inr ne ↦
        let on = overlay-lacks es below (rw (ne_eqb name f.0 ne) at is) in
        (get_elsewhere (overlay es below).lengths f.0 (length f.1) name ne ∙ on.0, bytes-elsewhere (overlay es below).content f.0 f.1 ne ∙ on.1)
  ]

  -- of a name in memory, nothing below is seen
  pub overlay-shadow : (es : Entries) (bytes : List ℕ) (below : Held)
      → with_tile (overlay es (without_tile below name)) name bytes ≡ with_tile (overlay es below) name bytes
  overlay-shadow [] bytes below = put-fill below name bytes
  overlay-shadow (f ∷ es) bytes below = elim (cases_eq f.0 name) [
    | inl same ↦
        ap (λ n. with_tile (with_tile (overlay es (without_tile below name)) n f.1) name bytes) same
        ∙ put-twice (overlay es (without_tile below name)) name f.1 bytes ∙ overlay-shadow es bytes below
        ∙ sym (ap (λ n. with_tile (with_tile (overlay es below) n f.1) name bytes) same ∙ put-twice (overlay es below) name f.1 bytes)
    | inr ne ↦
        put-swap (overlay es (without_tile below name)) f.0 name f.1 bytes ne
        ∙ ap (λ held. with_tile held f.0 f.1) (overlay-shadow es bytes below)
        ∙ sym (put-swap (overlay es below) f.0 name f.1 bytes ne)
  ]

  pub overlay-hides : (es : Entries) (bytes : List ℕ) (below : Held) → lookup (eqb name) es ≡ Some bytes
      → overlay es (without_tile below name) ≡ overlay es below
  overlay-hides [] bytes below is = absurd (let no : None ≡ Some bytes = is in cc)
  overlay-hides (f ∷ es) bytes below is = elim (cases_eq name f.0) [
    | inl same ↦
        ap (λ n. with_tile (overlay es (without_tile below name)) n f.1) (sym same) ∙ overlay-shadow es f.1 below
        ∙ ap (λ n. with_tile (overlay es below) n f.1) same
    | inr ne ↦ ap (λ held. with_tile held f.0 f.1) (overlay-hides es bytes below (rw (ne_eqb name f.0 ne) at is))
  ]

  pub no-entry : (es : Entries) → lookup_entry (eqb name) es ≡ None → lookup (eqb name) es ≡ None
  no-entry [] is = refl
  no-entry (f ∷ es) is = elim (cases_eq name f.0) [
    | inl same ↦ absurd (let no : Some f ≡ None = rw (eq-eqb name f.0 same) at is in cc)
    | inr ne ↦ rw (ne_eqb name f.0 ne) (no-entry es (rw (ne_eqb name f.0 ne) at is))
  ]

  pub overlay-promoted : (es : Entries) (below : Held) → overlay (promoted (eqb name) es) below ≡ overlay es below
  overlay-promoted es below = by_entry (lookup_entry (eqb name) es) refl
    where
      by_entry : (o : Option (ℕ × List ℕ)) → lookup_entry (eqb name) es ≡ o
          → overlay (option_map_or (λ e. e ∷ remove_entry (eqb name) es) o es) below ≡ overlay es below
      by_entry None is = refl
      by_entry (Some e) is =
          let found = overlay-found es e below is in
          ap (λ n. with_tile (overlay (remove_entry (eqb name) es) below) n e.1) found.0 ∙ found.1

  -- a tile that is put in memory is what its name has
  pub overlay-put : (es : Entries) (capacity : ℕ) (bytes : List ℕ) (below : Held)
      → (lookup (eqb name) es ≡ None → length es < capacity)
      → overlay (put_entries eqb (lru_cache es capacity) name bytes) below ≡ with_tile (overlay es below) name bytes
  overlay-put es capacity bytes below room = by_entry (lookup_entry (eqb name) es) refl
    where
      by_entry : (o : Option (ℕ × List ℕ)) → lookup_entry (eqb name) es ≡ o
          → overlay (option_map_or (λ e. (e.0, bytes) ∷ remove_entry (eqb name) es) o ((name, bytes) ∷ take (capacity - 1) es)) below
          ≡ with_tile (overlay es below) name bytes
      by_entry None is =
          let less = room (no-entry es is) in
          ap (λ fs. with_tile (overlay fs below) name bytes) (take_all (capacity - 1) es (omega (arith, less)))
      by_entry (Some e) is =
          let found = overlay-found es e below is in
          ap (λ n. with_tile (overlay (remove_entry (eqb name) es) below) n bytes) found.0
          ∙ sym (put-twice (overlay (remove_entry (eqb name) es) below) name e.1 bytes)
          ∙ ap (λ held. with_tile held name bytes) found.1

  -- taken out where it isn't in memory, a name is taken out below
  pub overlay-out : (es : Entries) (below : Held) → lookup (eqb name) es ≡ None
      → overlay es (without_tile below name) ≡ without_tile (overlay es below) name
  overlay-out [] below is = refl
  overlay-out (f ∷ es) below is = elim (cases_eq name f.0) [
    | inl same ↦ absurd (let no : Some f.1 ≡ None = rw (eq-eqb name f.0 same) at is in cc)
    | inr ne ↦
        ap (λ held. with_tile held f.0 f.1) (overlay-out es below (rw (ne_eqb name f.0 ne) at is))
        ∙ sym (out-swap (overlay es below) name f.0 f.1 ne)
  ]

  -- a name that is taken out in memory and below is gone
  pub overlay-removed : (es : Entries) (below : Held) → IsDistinct eqb (keys_of es)
      → overlay (remove_entry (eqb name) es) (without_tile below name) ≡ without_tile (overlay es below) name
  overlay-removed [] below apart = refl
  overlay-removed (f ∷ es) below apart = elim (cases_eq name f.0) [
    | inl same ↦
        let none = lookup-none (eqb name) es (none_past_head nat_eq_equiv name f es apart (eq-eqb name f.0 same)) in
        rw (eq-eqb name f.0 same)
        (overlay-out es below none ∙ sym (out-put (overlay es below) name f.1)
        ∙ ap (λ n. without_tile (with_tile (overlay es below) n f.1) name) same)
    | inr ne ↦ rw (ne_eqb name f.0 ne)
        (ap (λ held. with_tile held f.0 f.1) (overlay-removed es below (IsDistinct-tail eqb f.0 (keys_of es) apart)) ∙ sym (out-swap (overlay es below) name f.0 f.1 ne))
  ]
