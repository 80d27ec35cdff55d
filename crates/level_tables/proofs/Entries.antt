-- Entries of maps from tiles, and of maps from tiles of levels.
use Rattle.std.proofs.Common.{◌≡◌, ℕ, zero, suc, ◌+◌, ◌<◌, Bool, true, false, cond, eqb, List, [], ◌∷◌, get_or, Option, Some, None, Result, Ok, Err, Contains, inl, inr, true≢false, refl, sym, ap, subst, ◌∙◌, arith}
use Rattle.std.specs.Prelude.{IfSome, position, slice_get}
use Rattle.std.specs.Cmp.{IsEquivalence}
use Rattle.std.specs.List.{sum_by}
use Rattle.std.specs.List.Sorted.{IsPermutation}
use Rattle.std.specs.Map.{keys_of, lookup, lookup_key, values_of}
use Rattle.std.specs.Result.{IsOk, OnOk}
use Rattle.std.specs.Option.{option_to_list, is_some}
use Rattle.std.proofs.lemmas.List.Sums.{sum_by-cons}
use Rattle.chain_owners.proofs.Ownership.{times-elsewhere, times-here}
use Rattle.std.proofs.lemmas.Bool.{cases_eq, cases_Bool}
use Rattle.std.proofs.lemmas.Bool.Decides.{nat_tests}
use Rattle.std.proofs.lemmas.List.Sorted.{IsPermutation-swap_remove, sum_by-IsPermutation}
use Rattle.indexmap.specs.IndexMap.{insert_entry, swap_remove_entry}
use Rattle.indexmap.proofs.MapLemmas.{Found-position, some_index, swap_remove_entry-found}
use Rattle.plane_rect.specs.Tile.{Tile, same_tile}
use Rattle.plane_rect.specs.SameTile.{same_tile-laws, same_tile-true}
use Rattle.plane_rect.proofs.Lists.{Contains-cases, Contains-first, Contains-later}
use Rattle.chain_owners.specs.Owners.{times}
use Rattle.level_tables.specs.LevelTiles.{position_with, same_level_tile}
use Rattle.level_tables.specs.declared.level_tile.LevelTile.{LevelTile}

-- what holds of a call that succeeded
pub taken : {X E P : Type 0} (r : Result X E) → IsOk r → OnOk r P → P
taken (Ok x) is holds = holds
taken (Err e) is holds = absurd (true≢false (sym is))

-- ---- equal tiles of levels

pub same_level_tile-true : (a b : LevelTile) → same_level_tile a b ≡ true → a ≡ b
same_level_tile-true a b e =
    let level : a.level ≡ b.level = grind (arith, nat_tests) in
    let same : same_tile a.tile b.tile ≡ true = grind (arith, nat_tests) in
    let tile : a.tile ≡ b.tile = same_tile-true a.tile b.tile same in
    let joined : (of : ℕ → Tile → LevelTile) → of a.level a.tile ≡ of b.level b.tile = λ of. cc in
    joined (λ level tile. record { level = level; tile = tile })

pub same_level_tile-laws : IsEquivalence same_level_tile
same_level_tile-laws = record {
  refl = λ a. grind (arith, nat_tests);
  symm = λ a b. grind (arith, nat_tests);
  congr = λ a b c e. ap (λ (t : LevelTile). same_level_tile t c) (same_level_tile-true a b e);
}

-- ---- how often a list has a name

abbrev one_if : ℕ → ℕ → ℕ
one_if q n = cond (eqb n q) 1 0

times-sum : (names : List ℕ) (q : ℕ) → times names q ≡ sum_by (one_if q) names
times-sum [] q = refl
times-sum (n ∷ names) q = ap (λ m. one_if q n + m) (times-sum names q) ∙ sym (sum_by-cons (one_if q) n names)

pub times-permutation : (xs ys : List ℕ) (q : ℕ) → IsPermutation xs ys → times xs q ≡ times ys q
times-permutation xs ys q is = times-sum xs q ∙ sym (sum_by-IsPermutation (one_if q) xs ys is) ∙ sym (times-sum ys q)

pub times-contained : (names : List ℕ) (q : ℕ) → Contains names q → 0 < times names q
times-contained [] q there = absurd (omega (arith, there.1))
times-contained (n ∷ names) q there = elim (Contains-cases n names q there) [
  | inl here ↦ let P : ℕ → Type 0 = λ m. 0 < times (n ∷ names) m in subst P here (omega (arith, times-here names n))
  | inr later ↦ omega (arith, times-contained names q later)
]

pub contained-times : (names : List ℕ) (q : ℕ) → 0 < times names q → Contains names q
contained-times [] q some = absurd (omega (arith, some))
contained-times (n ∷ names) q some = elim (cases_eq n q) [
  | inl here ↦ Contains-first n names q here
  | inr other ↦ Contains-later n names q (contained-times names q (omega (arith, some, times-elsewhere names n q (λ e. other (sym e)))))
]

-- ---- entries

module _ {K : Type 0} where
  pub Contains-key : (es : List (K × ℕ)) (k : K) (v : ℕ) → Contains es (k, v) → Contains (keys_of es) k
  Contains-key [] k v there = absurd (omega (arith, there.1))
  Contains-key (e ∷ es) k v there = elim (Contains-cases e es (k, v) there) [
    | inl here ↦ Contains-first e.0 (keys_of es) k (ap (λ (p : K × ℕ). p.0) here)
    | inr later ↦ Contains-later e.0 (keys_of es) k (Contains-key es k v later)
  ]

  pub Contains-value : (es : List (K × ℕ)) (k : K) (v : ℕ) → Contains es (k, v) → Contains (values_of es) v
  Contains-value [] k v there = absurd (omega (arith, there.1))
  Contains-value (e ∷ es) k v there = elim (Contains-cases e es (k, v) there) [
    | inl here ↦ Contains-first e.1 (values_of es) v (ap (λ (p : K × ℕ). p.1) here)
    | inr later ↦ Contains-later e.1 (values_of es) v (Contains-value es k v later)
  ]

  module _ (eq : K → K → Bool) (same : (a b : K) → eq a b ≡ true → a ≡ b) where
    pub Contains-lookup : (es : List (K × ℕ)) (k : K) (v : ℕ) → lookup (eq k) es ≡ Some v → Contains es (k, v)
    Contains-lookup [] k v is = absurd (let no : None ≡ Some v = is in cc)
    Contains-lookup (e ∷ es) k v is = elim (cases_Bool (eq k e.0)) [
      | inl hit ↦
          let here : Some e.1 ≡ Some v = rw hit at is in
          let value : e.1 ≡ v = cc in
          let joined : (of : K → ℕ → K × ℕ) → of e.0 e.1 ≡ of k v = λ of. (let key : e.0 ≡ k = sym (same k e.0 hit) in cc) in
          Contains-first e es (k, v) (joined (λ a b. (a, b)))
      | inr miss ↦ Contains-later e es (k, v) (Contains-lookup es k v (rw miss at is))
    ]

    pub lookup-absent : ((a : K) → eq a a ≡ true) → (es : List (K × ℕ)) (k : K) (v : ℕ) → lookup (eq k) es ≡ None → ¬ Contains es (k, v)
    lookup-absent one [] k v none there = omega (arith, there.1)
    lookup-absent one (e ∷ es) k v none there = elim (Contains-cases e es (k, v) there) [
      | inl here ↦
          let hit : eq k e.0 ≡ true = (let P : K × ℕ → Type 0 = λ p. eq k p.0 ≡ true in subst P (sym here) (one k)) in
          let found : Some e.1 ≡ None = rw hit at none in
          absurd (let lost : true ≡ false = ap is_some found in true≢false lost)
      | inr later ↦ elim (cases_Bool (eq k e.0)) [
        | inl hit ↦ let found : Some e.1 ≡ None = rw hit at none in true≢false (ap is_some found)
        | inr miss ↦ lookup-absent one es k v (rw miss at none) later
      ]
    ]

    key-found : (es : List (K × ℕ)) (k : K) → is_some (lookup (eq k) es) ≡ true → lookup_key (eq k) es ≡ Some k
    key-found [] k there = absurd (true≢false (sym there))
    key-found (e ∷ es) k there = elim (cases_Bool (eq k e.0)) [
      | inl hit ↦ rw hit (ap (λ (x : K). Some x) (sym (same k e.0 hit)))
      | inr miss ↦ rw miss (key-found es k (rw miss at there))
    ]

    found : (es : List (K × ℕ)) (k : K) (v i : ℕ) → slice_get (keys_of es) i ≡ Some k → slice_get (values_of es) i ≡ Some v → get_or es i (k, v) ≡ (k, v)
    found [] k v i key value = absurd (let none : None ≡ Some k = key in cc)
    found (e ∷ es) k v zero key value =
        let first : Some e.0 ≡ Some k = key in
        let second : Some e.1 ≡ Some v = value in
        let key_is : e.0 ≡ k = cc in
        let value_is : e.1 ≡ v = cc in
        let joined : (of : K → ℕ → K × ℕ) → of e.0 e.1 ≡ of k v = λ of. cc in
        joined (λ a b. (a, b))
    found (e ∷ es) k v (suc i) key value = found es k v i key value

    pub removed : (es new : List (K × ℕ)) (k : K) (o : Option ℕ) → o ≡ lookup (eq k) es → new ≡ swap_remove_entry (eq k) es
        → IfSome o (λ v. IsPermutation es ((k, v) ∷ new))
    removed es new k None is is_new = tt
    removed es new k (Some v) is is_new = of (position (eq k) (keys_of es)) refl
      where
        of : (p : Option ℕ) → position (eq k) (keys_of es) ≡ p → IsPermutation es ((k, v) ∷ new)
        of None none =
            let lost : is_some (lookup (eq k) es) ≡ false = sym (some_index (eq k) es) ∙ ap is_some none in
            absurd (true≢false (ap is_some is ∙ lost))
        of (Some i) place =
            let at = Found-position (eq k) es i place in
            rw (is_new, swap_remove_entry-found (eq k) es i (k, v) place)
            (IsPermutation-swap_remove es i (k, v) at.within (sym (found es k v i (sym at.key ∙ key-found es k (ap is_some (sym is))) (sym at.value ∙ sym is))))

-- ---- a name put at a position

pub keys-inserted : (put : List (Tile × ℕ)) (at : Tile) (name : ℕ) → keys_of (insert_entry same_tile put at name) ≡ position_with (keys_of put) at
keys-inserted [] at name = refl
keys-inserted (e ∷ put) at name = elim (cases_Bool (same_tile at e.0)) [
  | inl hit ↦ rw hit refl
  | inr miss ↦ rw miss (ap (λ (l : List Tile). e.0 ∷ l) (keys-inserted put at name))
]

pub lookup-inserted : (put : List (Tile × ℕ)) (at : Tile) (name : ℕ) (q : Tile)
    → lookup (same_tile q) (insert_entry same_tile put at name) ≡ cond (same_tile q at) (Some name) (lookup (same_tile q) put)
lookup-inserted [] at name q = refl
lookup-inserted (e ∷ put) at name q = elim (cases_Bool (same_tile at e.0)) [
  | inl hit ↦
      let same : e.0 ≡ at = sym (same_tile-true at e.0 hit) in
      rw (hit, same) (elim (cases_Bool (same_tile q at)) [ inl here ↦ rw here refl | inr other ↦ rw other refl ])
  | inr miss ↦ rw miss (elim (cases_Bool (same_tile q e.0)) [
    | inl here ↦
        let same : q ≡ e.0 = same_tile-true q e.0 here in
        let other : same_tile q at ≡ false = rw same (same_tile-laws.symm e.0 at ∙ miss) in
        rw (here, other) refl
    | inr other ↦ rw other (lookup-inserted put at name q)
  ])
]

pub times-inserted : (put : List (Tile × ℕ)) (at : Tile) (name q : ℕ)
    → times (values_of (insert_entry same_tile put at name)) q + times (option_to_list (lookup (same_tile at) put)) q
    ≡ times (values_of put) q + times (name ∷ []) q
times-inserted [] at name q = omega arith
times-inserted (e ∷ put) at name q = elim (cases_Bool (same_tile at e.0)) [
  | inl hit ↦ rw hit (omega arith)
  | inr miss ↦ rw miss (omega (arith, times-inserted put at name q))
]
