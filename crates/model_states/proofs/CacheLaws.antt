-- The laws of the list of cached pairs.
use Rattle.std.proofs.Common.{◌≡◌, ℕ, zero, suc, ◌+◌, ◌≤◌, Bool, true, false, not, ◌&&◌, List, [], ◌∷◌, filter, take, length, Option, Some, None, option_map, subst, refl, sym, ap, ◌∙◌, arith, cond}
use Rattle.std.specs.List.{IsDistinct, AllByRecursion}
use Rattle.std.specs.Str.{bytes_eq}
use Rattle.std.proofs.lemmas.Slice.Eq.{bytes_eq-Decides}
use Rattle.std.proofs.lemmas.List.{length-take}
use Rattle.plane_rect.specs.Tile.{Tile, same_tile}
use Rattle.plane_rect.specs.SameTile.{same_tile-true}
use Rattle.model_states.specs.Cache.{HasDistinctPairs, Pair, Counted, all_looked_up, applied_more, counted_pairs, find_pair, itself, looked_up, pairs_of, recent, recent_of, reused_more, same_pair, within, without_pair}

-- pairs that pass the test are equal
pub same_pair-true : (a b : Pair) → same_pair a b ≡ true → a ≡ b
same_pair-true a b e = by (bytes_eq a.node b.node) refl (same_tile a.tile b.tile) refl e
  where
    joined : a.node ≡ b.node → a.tile ≡ b.tile → a ≡ b
    joined node tile =
        let of : List ℕ → Tile → Pair = λ n t. record { node = n; tile = t } in
        let both : (of : List ℕ → Tile → Pair) → of a.node a.tile ≡ of b.node b.tile = λ of. cc in
        both of

    by : (n : Bool) → bytes_eq a.node b.node ≡ n → (t : Bool) → same_tile a.tile b.tile ≡ t → (n && t) ≡ true → a ≡ b
    by true n true t h = joined ((bytes_eq-Decides a.node b.node).0 n) (same_tile-true a.tile b.tile t)
    by true n false t h = absurd (cc)
    by false n t' t h = absurd (cc)

module _ {X : Type 0} (key : X → Pair) (fresh : Pair → X) (capacity : Option ℕ) where
  -- ---- counts

  -- one step adds one to one of the counts
  step_counts : (counted : Counted X) (pair : Pair) →
      (looked_up key fresh capacity counted pair).applied + (looked_up key fresh capacity counted pair).reused ≡ counted.applied + counted.reused + 1
  step_counts counted pair = by (find_pair key counted.list pair)
    where
      by : (o : Option X) → applied_more counted.applied o + reused_more counted.reused o ≡ counted.applied + counted.reused + 1
      by None = omega arith
      by (Some x) = omega arith

  pub counts_add_up : (counted : Counted X) (pairs : List Pair) →
      (all_looked_up key fresh capacity counted pairs).applied + (all_looked_up key fresh capacity counted pairs).reused ≡ counted.applied + counted.reused + length pairs
  counts_add_up counted [] = omega arith
  counts_add_up counted (pair ∷ pairs) =
      counts_add_up (looked_up key fresh capacity counted pair) pairs
      ∙ omega (arith, step_counts counted pair)

module _ {X : Type 0} (key : X → Pair) where
  -- ---- what is found

  abbrev test : Pair → X → Bool
  test pair x = same_pair pair (key x)

  -- what is found for a pair is of that pair
  pub found_is : (list : List X) (pair : Pair) (x : X) → find_pair key list pair ≡ Some x → key x ≡ pair
  found_is [] pair x found = absurd (cc)
  found_is (y ∷ list) pair x found = by (test pair y) refl found (found_is list pair x)
    where
      by : (b : Bool) → test pair y ≡ b → cond b (Some y) (find_pair key list pair) ≡ Some x → (find_pair key list pair ≡ Some x → key x ≡ pair) → key x ≡ pair
      by true e here later = let same : y ≡ x = cc in subst (λ x. key x ≡ pair) same (sym (same_pair-true pair (key y) e))
      by false e rest later = later rest

  -- what holds of each element holds of what is found
  pub found_has : (P : X → Type 0) (list : List X) (pair : Pair) (x : X) → AllByRecursion P list → find_pair key list pair ≡ Some x → P x
  found_has P [] pair x all found = absurd (cc)
  found_has P (y ∷ list) pair x all found = by (test pair y) found (found_has P list pair x all.1)
    where
      by : (b : Bool) → cond b (Some y) (find_pair key list pair) ≡ Some x → (find_pair key list pair ≡ Some x → P x) → P x
      by true here later = let same : y ≡ x = cc in subst P same all.0
      by false rest later = later rest

  -- no other pair is there where none is found
  none_there : (list : List X) (pair : Pair) → find_pair key list pair ≡ None → AllByRecursion (λ b. same_pair pair b ≡ false) (pairs_of key list)
  none_there [] pair none = tt
  none_there (y ∷ list) pair none = by (test pair y) refl none (none_there list pair)
    where
      by : (b : Bool) → test pair y ≡ b → cond b (Some y) (find_pair key list pair) ≡ None →
          (find_pair key list pair ≡ None → AllByRecursion (λ b. same_pair pair b ≡ false) (pairs_of key list)) → AllByRecursion (λ b. same_pair pair b ≡ false) (pairs_of key (y ∷ list))
      by true e none rest = absurd (cc)
      by false e none rest = (e, rest none)

  -- ---- lists

  pub all-filter : (P : X → Type 0) (test : X → Bool) (list : List X) → AllByRecursion P list → AllByRecursion P (filter test list)
  all-filter P test [] h = tt
  all-filter P test (x ∷ list) h = by (test x) (all-filter P test list h.1)
    where
      by : (b : Bool) → AllByRecursion P (filter test list) → AllByRecursion P (cond b (x ∷ filter test list) (filter test list))
      by true rest = (h.0, rest)
      by false rest = rest

  pub all-within : (P : X → Type 0) (capacity : Option ℕ) (list : List X) → AllByRecursion P list → AllByRecursion P (within capacity list)
  all-within P None list h = h
  all-within P (Some n) list h = taken n list h
    where
      taken : (n : ℕ) (list : List X) → AllByRecursion P list → AllByRecursion P (take n list)
      taken zero list h = tt
      taken (suc n) [] h = tt
      taken (suc n) (x ∷ list) h = (h.0, taken n list h.1)

  all_pairs-filter : (P : Pair → Type 0) (test : X → Bool) (list : List X) → AllByRecursion P (pairs_of key list) → AllByRecursion P (pairs_of key (filter test list))
  all_pairs-filter P test [] h = tt
  all_pairs-filter P test (x ∷ list) h = by (test x) (all_pairs-filter P test list h.1)
    where
      by : (b : Bool) → AllByRecursion P (pairs_of key (filter test list)) → AllByRecursion P (pairs_of key (cond b (x ∷ filter test list) (filter test list)))
      by true rest = (h.0, rest)
      by false rest = rest

  pub distinct-filter : (test : X → Bool) (list : List X) → HasDistinctPairs key list → HasDistinctPairs key (filter test list)
  unfolding IsDistinct
  distinct-filter test [] h = tt
  distinct-filter test (x ∷ list) h = by (test x) (distinct-filter test list h.1)
    where
      by : (b : Bool) → HasDistinctPairs key (filter test list) → HasDistinctPairs key (cond b (x ∷ filter test list) (filter test list))
      by true rest = (all_pairs-filter (λ y. same_pair (key x) y ≡ false) test list h.0, rest)
      by false rest = rest

  all_pairs-take : (P : Pair → Type 0) (n : ℕ) (list : List X) → AllByRecursion P (pairs_of key list) → AllByRecursion P (pairs_of key (take n list))
  all_pairs-take P zero list h = tt
  all_pairs-take P (suc n) [] h = tt
  all_pairs-take P (suc n) (x ∷ list) h = (h.0, all_pairs-take P n list h.1)

  distinct-take : (n : ℕ) (list : List X) → HasDistinctPairs key list → HasDistinctPairs key (take n list)
  unfolding IsDistinct
  distinct-take zero list h = tt
  distinct-take (suc n) [] h = tt
  distinct-take (suc n) (x ∷ list) h = (all_pairs-take (λ y. same_pair (key x) y ≡ false) n list h.0, distinct-take n list h.1)

  pub distinct-within : (capacity : Option ℕ) (list : List X) → HasDistinctPairs key list → HasDistinctPairs key (within capacity list)
  distinct-within None list h = h
  distinct-within (Some n) list h = distinct-take n list h

  -- the others pass no test against the pair
  without-apart : (pair : Pair) (list : List X) → AllByRecursion (λ b. same_pair pair b ≡ false) (pairs_of key (without_pair key list pair))
  without-apart pair [] = tt
  without-apart pair (x ∷ list) = by (test pair x) refl (without-apart pair list)
    where
      by : (b : Bool) → test pair x ≡ b → AllByRecursion (λ b. same_pair pair b ≡ false) (pairs_of key (without_pair key list pair)) → AllByRecursion (λ b. same_pair pair b ≡ false) (pairs_of key (cond (not b) (x ∷ without_pair key list pair) (without_pair key list pair)))
      by true e rest = rest
      by false e rest = (e, rest)

  distinct-first : (x : X) (pair : Pair) (list : List X) → key x ≡ pair → AllByRecursion (λ b. same_pair pair b ≡ false) (pairs_of key list) → HasDistinctPairs key list → HasDistinctPairs key (x ∷ list)
  unfolding IsDistinct
  distinct-first x pair list e apart h = (subst (λ (p : Pair). AllByRecursion (λ b. same_pair p b ≡ false) (pairs_of key list)) (sym e) apart, h)

  -- ---- the list after pairs are looked up

  -- what holds of each element, and of what is fresh, holds of each that is left
  pub recent-all : (fresh : Pair → X) (capacity : Option ℕ) (P : X → Type 0) (list : List X) (pair : Pair) → AllByRecursion P list → P (fresh pair) →
      AllByRecursion P (recent key fresh capacity list pair)
  recent-all fresh capacity P list pair all new = by (find_pair key list pair) refl
    where
      by : (o : Option X) → find_pair key list pair ≡ o → AllByRecursion P (recent_of key fresh capacity list pair o)
      by None none = all-within P capacity (fresh pair ∷ list) (new, all)
      by (Some x) found = (found_has P list pair x all found, all-filter P (λ y. not (test pair y)) list all)

  recent-distinct : (fresh : Pair → X) (capacity : Option ℕ) (list : List X) (pair : Pair) → key (fresh pair) ≡ pair → HasDistinctPairs key list →
      HasDistinctPairs key (recent key fresh capacity list pair)
  recent-distinct fresh capacity list pair new distinct = by (find_pair key list pair) refl
    where
      by : (o : Option X) → find_pair key list pair ≡ o → HasDistinctPairs key (recent_of key fresh capacity list pair o)
      by None none = distinct-within capacity (fresh pair ∷ list) (distinct-first (fresh pair) pair list new (none_there list pair none) distinct)
      by (Some x) found =
          distinct-first x pair (without_pair key list pair) (found_is list pair x found) (without-apart pair list)
          (distinct-filter (λ y. not (test pair y)) list distinct)

  pub stays_distinct : (fresh : Pair → X) (capacity : Option ℕ) (counted : Counted X) (pairs : List Pair) → ((pair : Pair) → key (fresh pair) ≡ pair) →
      HasDistinctPairs key counted.list → HasDistinctPairs key (all_looked_up key fresh capacity counted pairs).list
  stays_distinct fresh capacity counted [] new h = h
  stays_distinct fresh capacity counted (pair ∷ pairs) new h =
      stays_distinct fresh capacity (looked_up key fresh capacity counted pair) pairs new
      (recent-distinct fresh capacity counted.list pair (new pair) h)

  -- ---- how many there are

  fewer : (test : X → Bool) (list : List X) → length (filter test list) ≤ length list
  fewer test [] = omega arith
  fewer test (x ∷ list) = by (test x) (fewer test list)
    where
      by : (b : Bool) → length (filter test list) ≤ length list → length (cond b (x ∷ filter test list) (filter test list)) ≤ length (x ∷ list)
      by true less = omega (arith, less)
      by false less = omega (arith, less)

  fewer_without : (list : List X) (pair : Pair) (x : X) → find_pair key list pair ≡ Some x → length (without_pair key list pair) + 1 ≤ length list
  fewer_without [] pair x found = absurd (cc)
  fewer_without (y ∷ list) pair x found = by (test pair y) found (fewer_without list pair x)
    where
      by : (b : Bool) → cond b (Some y) (find_pair key list pair) ≡ Some x → (find_pair key list pair ≡ Some x → length (without_pair key list pair) + 1 ≤ length list) → length (cond (not b) (y ∷ without_pair key list pair) (without_pair key list pair)) + 1 ≤ length (y ∷ list)
      by true here rest = let less = fewer (λ y. not (test pair y)) list in omega (arith, less)
      by false later rest = let less = rest later in omega (arith, less)

  recent-few : (fresh : Pair → X) (capacity : ℕ) (list : List X) (pair : Pair) → length list ≤ capacity → length (recent key fresh (Some capacity) list pair) ≤ capacity
  recent-few fresh capacity list pair few = by (find_pair key list pair) refl
    where
      by : (o : Option X) → find_pair key list pair ≡ o → length (recent_of key fresh (Some capacity) list pair o) ≤ capacity
      by None none = omega (arith, length-take capacity (fresh pair ∷ list))
      by (Some x) found = let less = fewer_without list pair x found in omega (arith, less, few)

  pub stays_in_capacity : (fresh : Pair → X) (capacity : ℕ) (counted : Counted X) (pairs : List Pair) →
      length counted.list ≤ capacity → length (all_looked_up key fresh (Some capacity) counted pairs).list ≤ capacity
  stays_in_capacity fresh capacity counted [] few = few
  stays_in_capacity fresh capacity counted (pair ∷ pairs) few =
      stays_in_capacity fresh capacity (looked_up key fresh (Some capacity) counted pair) pairs
      (recent-few fresh capacity counted.list pair few)

  -- ---- pairs alone

  find-pairs : (list : List X) (pair : Pair) → find_pair itself (pairs_of key list) pair ≡ option_map key (find_pair key list pair)
  find-pairs [] pair = refl
  find-pairs (x ∷ list) pair = by (test pair x) (find-pairs list pair)
    where
      by : (b : Bool) → find_pair itself (pairs_of key list) pair ≡ option_map key (find_pair key list pair) →
          cond b (Some (key x)) (find_pair itself (pairs_of key list) pair) ≡ option_map key (cond b (Some x) (find_pair key list pair))
      by true rest = refl
      by false rest = rest

  pub filter-pairs : (keep : Pair → Bool) (list : List X) → pairs_of key (filter (λ x. keep (key x)) list) ≡ filter keep (pairs_of key list)
  filter-pairs keep [] = refl
  filter-pairs keep (x ∷ list) = by (keep (key x)) (filter-pairs keep list)
    where
      by : (b : Bool) → pairs_of key (filter (λ x. keep (key x)) list) ≡ filter keep (pairs_of key list) →
          pairs_of key (cond b (x ∷ filter (λ x. keep (key x)) list) (filter (λ x. keep (key x)) list)) ≡ cond b (key x ∷ filter keep (pairs_of key list)) (filter keep (pairs_of key list))
      by true rest = ap (λ pairs. key x ∷ pairs) rest
      by false rest = rest

  take-pairs : (n : ℕ) (list : List X) → pairs_of key (take n list) ≡ take n (pairs_of key list)
  take-pairs zero list = refl
  take-pairs (suc n) [] = refl
  take-pairs (suc n) (x ∷ list) = ap (λ pairs. key x ∷ pairs) (take-pairs n list)

  within-pairs : (capacity : Option ℕ) (list : List X) → pairs_of key (within capacity list) ≡ within capacity (pairs_of key list)
  within-pairs None list = refl
  within-pairs (Some n) list = take-pairs n list

  step-pairs : (fresh : Pair → X) (capacity : Option ℕ) (counted : Counted X) (pair : Pair) → key (fresh pair) ≡ pair →
      counted_pairs key (looked_up key fresh capacity counted pair) ≡ looked_up itself itself capacity (counted_pairs key counted) pair
  step-pairs fresh capacity counted pair new =
      by (find_pair key counted.list pair) refl (find_pair itself (pairs_of key counted.list) pair) (find-pairs counted.list pair)
    where
      made : List Pair → ℕ → ℕ → Counted Pair
      made list applied reused = record { list = list; applied = applied; reused = reused }

      by : (o : Option X) → find_pair key counted.list pair ≡ o → (p : Option Pair) → p ≡ option_map key (find_pair key counted.list pair) →
          made (pairs_of key (recent_of key fresh capacity counted.list pair o)) (applied_more counted.applied o) (reused_more counted.reused o)
          ≡ made (recent_of itself itself capacity (pairs_of key counted.list) pair p) (applied_more counted.applied p) (reused_more counted.reused p)
      by None none None is =
          ap (λ list. made list (counted.applied + 1) counted.reused)
          (within-pairs capacity (fresh pair ∷ counted.list) ∙ ap (λ first. within capacity (first ∷ pairs_of key counted.list)) new)
      by None none (Some q) is = absurd (let e = ap (option_map key) none in cc)
      by (Some x) found None is = absurd (let e = ap (option_map key) found in cc)
      by (Some x) found (Some q) is =
          let e = is ∙ ap (option_map key) found in
          let same : q ≡ key x = cc in
          ap (λ list. made list counted.applied (counted.reused + 1))
          (ap (λ rest. key x ∷ rest) (filter-pairs (λ p. not (same_pair pair p)) counted.list)
          ∙ ap (λ first. first ∷ without_pair itself (pairs_of key counted.list) pair) (sym same))

  pub pairs_alone : (fresh : Pair → X) (capacity : Option ℕ) (counted : Counted X) (pairs : List Pair) → ((pair : Pair) → key (fresh pair) ≡ pair) →
      counted_pairs key (all_looked_up key fresh capacity counted pairs) ≡ all_looked_up itself itself capacity (counted_pairs key counted) pairs
  pairs_alone fresh capacity counted [] new = refl
  pairs_alone fresh capacity counted (pair ∷ pairs) new =
      pairs_alone fresh capacity (looked_up key fresh capacity counted pair) pairs new
      ∙ ap (λ counted. all_looked_up itself itself capacity counted pairs) (step-pairs fresh capacity counted pair (new pair))
