-- What holds of where names lie, after a name came or went.
use Rattle.std.proofs.Common.{◌≡◌, ◌≢◌, ℕ, ◌+◌, ◌-◌, ◌<◌, ◌≤◌, ◌^◌, ◌↔◌, Bool, true, false, cond, List, [], ◌∷◌, length, get_or, Option, Some, None, ◌⊎◌, inl, inr, refl, sym, ap, subst, ◌∙◌, arith}
use Rattle.std.specs.Ordering.{nat_cmp}
use Rattle.std.specs.FinMap as map
use Rattle.std.specs.FinMap.{get-empty, len-insert, len-remove}
use Rattle.std.specs.Option.{is_some}
use Rattle.std.proofs.lemmas.Bool.{cases_eq, cases_lt, false≢true, true≢false}
use Rattle.std.specs.Cmp.{nat_cmp_total}
use Rattle.tile_cow.specs.Tile.{IsTileLength}
use Rattle.chain_owners.specs.declared.run.Run.{Run}
use Rattle.swap_store.specs.declared.block_map.Extent.{Extent}
use Rattle.chain_owners.specs.Values.{Named}
use Rattle.swap_store.specs.Run.{blocks_for, InBlocks, HasBlock, IsRunList}
use Rattle.swap_store.specs.Placement.{Placement, IsPlacement, IsUnnamed, InExtent}
use Rattle.chain_owners.proofs.Names.{get_here, get_elsewhere, get_gone, get_left}
use Rattle.swap_store.proofs.RunLists.{Without, HasBlock-at}
use Rattle.swap_store.proofs.GivenBack.{With}

same_extent : (e f : Extent) → Some e ≡ Some f → e ≡ f
same_extent e f is = cc

absent : {A : Type 0} (o : Option Extent) (e : Extent) → o ≡ None → o ≡ Some e → A
absent o e none some = absurd (let no_such : None ≡ Some e = sym none ∙ some in cc)

pub blocks_for-some : (len : ℕ) → 1 ≤ len → 1 ≤ blocks_for len
blocks_for-some len some = omega arith

cases_in_blocks : (b first count : ℕ) → InBlocks b first count ⊎ (¬ InBlocks b first count)
cases_in_blocks b first count = elim (cases_lt b first) [
  | inl lt ↦ inr (λ is_inside. absurd (omega (arith, is_inside.low)))
  | inr ge ↦ elim (cases_lt b (first + count)) [
    | inl lt ↦ inl (record { low = ge; high = lt })
    | inr ge' ↦ inr (λ is_inside. absurd (omega (arith, is_inside.high)))
  ]
]

-- ---- no names

pub fresh : (used : ℕ) (free : List Run) → used ≤ 2 ^ 20 → IsRunList 0 (2 ^ 20) free → ((b : ℕ) → HasBlock free b ↔ (b < used))
    → IsPlacement (record { extents = map.empty; free = free; used = used })
fresh used free bounded runs all = record {
  runs = runs;
  exact = λ b. (λ h. ((all b).0 h, λ name extent some. absent _ extent (get-empty nat_cmp name) some), λ h. (all b).1 h.0);
  fits = λ name extent some. absent _ extent (get-empty nat_cmp name) some;
  apart = λ name other extent extent' ne some. absent _ extent (get-empty nat_cmp name) some;
  bounded = bounded;
}

-- ---- a name that has blocks which were free

module _ (p : Placement) (laws : IsPlacement p) (name len first : ℕ) (size : IsTileLength len)
    (were_free : (b : ℕ) → InBlocks b first (blocks_for len) → HasBlock p.free b) where
  abbrev extent : Extent
  extent = record { first = first; len = len }

  abbrev extents : Named Extent
  extents = map.insert p.extents name extent

  -- an extent of the new map is the new one, or an old one
  which : (q : ℕ) (e : Extent) → map.get extents q ≡ Some e → ((q ≡ name) × (e ≡ extent)) ⊎ ((q ≢ name) × (map.get p.extents q ≡ Some e))
  which q e some = elim (cases_eq q name) [
    | inl is ↦ inl (is, same_extent e extent (sym some ∙ ap (map.get extents) is ∙ get_here p.extents name extent))
    | inr ne ↦ inr (ne, sym (get_elsewhere p.extents name extent q ne) ∙ some)
  ]

  was_free : (b : ℕ) → InBlocks b first (blocks_for len) → (b < p.used) × IsUnnamed p.extents b
  was_free b is_inside = (laws.exact b).0 (were_free b is_inside)

  in_used : first + blocks_for len ≤ p.used
  in_used =
      let some = blocks_for-some len size.0 in
      let last : first + blocks_for len - 1 < p.used = (was_free (first + blocks_for len - 1) (record { low = omega (arith, some); high = omega (arith, some) })).0 in
      omega (arith, some, last)

  fits_after : (q : ℕ) (e : Extent) → map.get extents q ≡ Some e → IsTileLength e.len × (e.first + blocks_for e.len ≤ p.used)
  fits_after q e some = elim (which q e some) [
    | inl is ↦ let P : Extent → Type 0 = λ e. IsTileLength e.len × (e.first + blocks_for e.len ≤ p.used) in subst P (sym is.1) (size, in_used)
    | inr old ↦ laws.fits q e old.1
  ]

  apart_after : (q r : ℕ) (e f : Extent) → q ≢ r → map.get extents q ≡ Some e → map.get extents r ≡ Some f
      → (b : ℕ) → InExtent b e → ¬ InExtent b f
  apart_after q r e f ne some some' b in_e in_f = elim (which q e some) [
    | inl is ↦ let P : Extent → Type 0 = λ e. InExtent b e in
        elim (which r f some') [
          | inl is' ↦ absurd (ne (is.0 ∙ sym is'.0))
          | inr old ↦ (was_free b (subst P is.1 in_e)).1 r f old.1 in_f
        ]
    | inr old ↦ let P : Extent → Type 0 = λ e. InExtent b e in
        elim (which r f some') [
          | inl is' ↦ (was_free b (subst P is'.1 in_f)).1 q e old.1 in_e
          | inr old' ↦ laws.apart q r e f ne old.1 old'.1 b in_e in_f
        ]
  ]

  -- ---- a name that comes

  module _ (none : map.get p.extents name ≡ None) (free : List Run) (runs : IsRunList 0 (2 ^ 20) free)
      (without : Without p.free free first (blocks_for len)) where
    still_unnamed : (b : ℕ) → IsUnnamed p.extents b → ¬ InBlocks b first (blocks_for len) → IsUnnamed extents b
    still_unnamed b unnamed out q e some = elim (which q e some) [
      | inl is ↦ let P : Extent → Type 0 = λ e. ¬ InExtent b e in subst P (sym is.1) out
      | inr old ↦ unnamed q e old.1
    ]

    was_unnamed : (b : ℕ) → IsUnnamed extents b → IsUnnamed p.extents b × ¬ InBlocks b first (blocks_for len)
    was_unnamed b unnamed = (
      λ q e some. elim (cases_eq q name) [
        | inl is ↦ absent (map.get p.extents q) e (ap (map.get p.extents) is ∙ none) some
        | inr ne ↦ unnamed q e (get_elsewhere p.extents name extent q ne ∙ some)
      ],
      unnamed name extent (get_here p.extents name extent),
    )

    pub named : IsPlacement (record { extents = extents; free = free; used = p.used })
    named = record {
      runs = runs;
      exact = λ b. (
        λ h. let (was, out) = (without b).0 h in
            let (lt, unnamed) = (laws.exact b).0 was in
            (lt, still_unnamed b unnamed out),
        λ h. let (unnamed, out) = was_unnamed b h.1 in (without b).1 ((laws.exact b).1 (h.0, unnamed), out),
      );
      fits = fits_after;
      apart = apart_after;
      bounded = laws.bounded;
    }

  -- ---- a name that moves

  module _ (old : Extent) (some_old : map.get p.extents name ≡ Some old) (middle free : List Run) (runs : IsRunList 0 (2 ^ 20) free)
      (without : Without p.free middle first (blocks_for len)) (with : With middle free old.first (blocks_for old.len)) where
    unnamed_elsewhere : (b : ℕ) → ¬ InBlocks b first (blocks_for len)
        → ((q : ℕ) (e : Extent) → q ≢ name → map.get p.extents q ≡ Some e → ¬ InExtent b e) → IsUnnamed extents b
    unnamed_elsewhere b out others q e some = elim (which q e some) [
      | inl is ↦ let P : Extent → Type 0 = λ e. ¬ InExtent b e in subst P (sym is.1) out
      | inr was ↦ others q e was.0 was.1
    ]

    -- what is unnamed now was the name's, or nobody's
    was_unnamed_or_old : (b : ℕ) → IsUnnamed extents b → InExtent b old ⊎ (IsUnnamed p.extents b × ¬ InBlocks b first (blocks_for len))
    was_unnamed_or_old b unnamed = elim (cases_in_blocks b old.first (blocks_for old.len)) [
      | inl is_inside ↦ inl is_inside
      | inr out ↦ inr (
        λ q e some. elim (cases_eq q name) [
          | inl is ↦ let P : Extent → Type 0 = λ e. ¬ InExtent b e in
              subst P (same_extent old e (sym some_old ∙ ap (map.get p.extents) (sym is) ∙ some)) out
          | inr ne ↦ unnamed q e (get_elsewhere p.extents name extent q ne ∙ some)
        ],
        unnamed name extent (get_here p.extents name extent),
      )
    ]

    pub moved : IsPlacement (record { extents = extents; free = free; used = p.used })
    moved = record {
      runs = runs;
      exact = λ b. (
        λ h. elim ((with b).0 h) [
          | inl mid ↦ let (was, out) = (without b).0 mid in
              let (lt, unnamed) = (laws.exact b).0 was in
              (lt, unnamed_elsewhere b out (λ q e ne some. unnamed q e some))
          | inr is_inside ↦ (
            omega (arith, (laws.fits name old some_old).1, is_inside.high),
            unnamed_elsewhere b
                (λ new. (was_free b new).1 name old some_old is_inside)
                (λ q e ne some. laws.apart name q old e (λ is. ne (sym is)) some_old some b is_inside),
          )
        ],
        λ h. (with b).1
            (elim (was_unnamed_or_old b h.1) [
              | inl is_inside ↦ inr is_inside
              | inr was ↦ inl ((without b).1 ((laws.exact b).1 (h.0, was.0), was.1))
            ]),
      );
      fits = fits_after;
      apart = apart_after;
      bounded = laws.bounded;
    }

-- ---- a name that goes

module _ (p : Placement) (laws : IsPlacement p) (name : ℕ) (extent : Extent) (some_extent : map.get p.extents name ≡ Some extent)
  where
    abbrev kept : Named Extent
    kept = map.remove p.extents name

    was_kept : (q : ℕ) (e : Extent) → map.get kept q ≡ Some e → (q ≢ name) × (map.get p.extents q ≡ Some e)
    was_kept q e some = elim (cases_eq q name) [
      | inl is ↦ absent (map.get kept q) e (ap (map.get kept) is ∙ get_gone p.extents name) some
      | inr ne ↦ (ne, sym (get_left p.extents name q ne) ∙ some)
    ]

    -- the blocks of the name are no other's, and not free
    pub not_free : (b : ℕ) → InBlocks b extent.first (blocks_for extent.len) → ¬ HasBlock p.free b
    not_free b is_inside free = ((laws.exact b).0 free).1 name extent some_extent is_inside

    pub extent_some : 1 ≤ blocks_for extent.len
    extent_some = blocks_for-some extent.len (laws.fits name extent some_extent).0.0

    pub extent_bound : extent.first + blocks_for extent.len ≤ 2 ^ 20
    extent_bound = omega (arith, (laws.fits name extent some_extent).1, laws.bounded)

    pub forgotten : (free : List Run) → IsRunList 0 (2 ^ 20) free → With p.free free extent.first (blocks_for extent.len)
        → IsPlacement (record { extents = kept; free = free; used = p.used })
    forgotten free runs with = record {
      runs = runs;
      exact = λ b. (
        λ h. elim ((with b).0 h) [
          | inl was ↦ let (lt, unnamed) = (laws.exact b).0 was in (lt, λ q e some. unnamed q e (was_kept q e some).1)
          | inr is_inside ↦ (
            omega (arith, (laws.fits name extent some_extent).1, is_inside.high),
            λ q e some. let (ne, old) = was_kept q e some in laws.apart name q extent e (λ is. ne (sym is)) some_extent old b is_inside,
          )
        ],
        λ h. (with b).1
            (elim (cases_in_blocks b extent.first (blocks_for extent.len)) [
              | inl is_inside ↦ inr is_inside
              | inr out ↦ inl ((laws.exact b).1 (
                h.0,
                λ q e some. elim (cases_eq q name) [
                  | inl is ↦ let P : Extent → Type 0 = λ e. ¬ InExtent b e in
                      subst P (same_extent extent e (sym some_extent ∙ ap (map.get p.extents) (sym is) ∙ some)) out
                  | inr ne ↦ h.1 q e (get_left p.extents name q ne ∙ some)
                ],
              ))
            ]),
      );
      fits = λ q e some. laws.fits q e (was_kept q e some).1;
      apart = λ q r e f ne some some'. laws.apart q r e f ne (was_kept q e some).1 (was_kept r f some').1;
      bounded = laws.bounded;
    }

-- ---- the same, as a map of blocks does it

-- the placement of these extents and free runs
abbrev pub placed : Named Extent → List Run → ℕ → Placement
placed extents free used = record { extents = extents; free = free; used = used }

pub added : (extents : Named Extent) (free free' : List Run) (used name len i : ℕ) (run : Run)
    → IsPlacement (placed extents free used)
    → map.get extents name ≡ None → IsTileLength len
    → i < length free → run ≡ get_or free i run → ((d : Run) → blocks_for len ≤ (get_or free i d).count)
    → IsRunList 0 (2 ^ 20) free' → ((d : Run) → Without free free' (get_or free i d).first (blocks_for len))
    → IsPlacement (placed (map.insert extents name (record { first = run.first; len = len })) free' used)
added extents free free' used name len i run laws none size lt read long runs without =
    let first : (get_or free i run).first ≡ run.first = ap (λ (r : Run). r.first) (sym read) in
    named (placed extents free used) laws name len run.first size
    (λ b is_inside. HasBlock-at free i run b lt
    (record { low = omega (arith, first, is_inside.low); high = omega (arith, first, long run, is_inside.high) }))
    none free' runs (rw first at (without run))

pub none_there : (o : Option Extent) → is_some o ≡ false → o ≡ None
none_there None is = refl
none_there (Some e) is = absurd (true≢false is)

-- a name that comes is counted once, one that moves not again, and one that goes no more
pub len_added : (extents : Named Extent) (name : ℕ) (e : Extent) → map.len (map.insert extents name e) ≤ map.len extents + 1
len_added extents name e = at_most (map.contains_key extents name) (len-insert nat_cmp_total extents name e)
  where
    at_most : (b : Bool) → map.len (map.insert extents name e) ≡ cond b (map.len extents) (map.len extents + 1) → map.len (map.insert extents name e) ≤ map.len extents + 1
    at_most true is = omega (arith, is)
    at_most false is = omega (arith, is)

pub len_moved : (extents : Named Extent) (name : ℕ) (e : Extent) → is_some (map.get extents name) ≡ true
    → map.len (map.insert extents name e) ≡ map.len extents
len_moved extents name e there = len-insert nat_cmp_total extents name e ∙ ap (λ b. cond b (map.len extents) (map.len extents + 1)) there

pub len_removed : (extents : Named Extent) (name : ℕ) → is_some (map.get extents name) ≡ true
    → map.len (map.remove extents name) + 1 ≡ map.len extents
len_removed extents name there =
    let left = len-remove nat_cmp_total extents name ∙ ap (λ b. cond b (map.len extents - 1) (map.len extents)) there in
    let some : 1 ≤ map.len extents = elim (cases_lt 0 (map.len extents)) [
      | inl lt ↦ lt
      | inr ge ↦
          let none : map.get extents name ≡ None =
          ap (λ (m : Named Extent). map.get m name) (map.empty_of_len extents (omega (arith, ge))) ∙ get-empty nat_cmp name in
          absurd (false≢true (ap is_some (sym none) ∙ there))
    ] in
    omega (arith, left, some)

-- A name that moves leaves its old blocks, which none of the free runs has. Once they are given back, the laws hold.
pub record LeavesOld (extents : Named Extent) (free : List Run) (used name : ℕ) (new old : Extent) : Type 0 where
  pub some : 1 ≤ blocks_for old.len
  pub bound : old.first + blocks_for old.len ≤ 2 ^ 20
  pub apart : (b : ℕ) → InBlocks b old.first (blocks_for old.len) → ¬ HasBlock free b
  pub placed : (free' : List Run) → IsRunList 0 (2 ^ 20) free' → With free free' old.first (blocks_for old.len)
      → IsPlacement (placed (map.insert extents name new) free' used)

module _ (extents : Named Extent) (free middle : List Run) (used name len i : ℕ) (run : Run) (old : Extent)
    (laws : IsPlacement (placed extents free used))
    (some_old : map.get extents name ≡ Some old) (size : IsTileLength len)
    (lt : i < length free) (read : run ≡ get_or free i run) (long : (d : Run) → blocks_for len ≤ (get_or free i d).count)
    (without : (d : Run) → Without free middle (get_or free i d).first (blocks_for len)) where
  first_read : (get_or free i run).first ≡ run.first
  first_read = ap (λ (r : Run). r.first) (sym read)

  were_free_there : (b : ℕ) → InBlocks b run.first (blocks_for len) → HasBlock free b
  were_free_there b is_inside = HasBlock-at free i run b lt (record { low = omega (arith, first_read, is_inside.low); high = omega (arith, first_read, long run, is_inside.high) })

  without_there : Without free middle run.first (blocks_for len)
  without_there = rw first_read at (without run)

  pub leaves_old : LeavesOld extents middle used name (record { first = run.first; len = len }) old
  leaves_old = record {
    some = blocks_for-some old.len (laws.fits name old some_old).0.0;
    bound = omega (arith, (laws.fits name old some_old).1, laws.bounded);
    apart = λ b is_inside h. ((laws.exact b).0 ((without_there b).0 h).0).1 name old some_old is_inside;
    placed = λ free' runs with. moved (placed extents free used) laws name len run.first size were_free_there old some_old middle free' runs without_there with;
  }

-- ---- a placement of no names

pub all_free : (used : ℕ) (b : ℕ) → HasBlock (record { first = 0; count = used } ∷ []) b ↔ (b < used)
all_free used b = (elim [ inl l ↦ omega (arith, l.high) | inr none ↦ absurd none ], λ lt. inl (record { low = omega arith; high = omega arith }))

pub none_free : (b : ℕ) → HasBlock [] b ↔ (b < 0)
none_free b = (λ none. absurd none, λ lt. absurd (omega arith))

pub all_free_runs : (used : ℕ) → used ≤ 2 ^ 20 → 1 ≤ used → IsRunList 0 (2 ^ 20) (record { first = 0; count = used } ∷ [])
all_free_runs used bound some = (omega arith, some, omega arith, tt)
