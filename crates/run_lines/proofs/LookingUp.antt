-- How a list of cached tiles and the count of applied ones grow while pairs are looked up.
use Rattle.std.proofs.Common.{◌≡◌, ℕ, ◌+◌, ◌≤◌, Bool, true, false, not, cond, List, [], ◌∷◌, filter, length, Option, Some, None, refl, ap, ◌∙◌, arith}
use Rattle.std.proofs.lemmas.List.{length-take}
use Rattle.model_states.proofs.CacheLaws.{pairs_alone}
use Rattle.model_states.specs.Cache.{Cached, Counted, Pair, all_looked_up, applied_more, by_pair, counted_pairs, find_pair, itself, looked_up, pairs_of, recent, recent_of, same_pair, uncounted, within, without_pair}

-- what is left of a list is no longer than it
pub filter-fewer : {X : Type 0} (test : X → Bool) (list : List X) → length (filter test list) ≤ length list
filter-fewer test [] = omega arith
filter-fewer test (x ∷ list) = by (test x) (filter-fewer test list)
  where
    by : (b : Bool) → length (filter test list) ≤ length list → length (cond b (x ∷ filter test list) (filter test list)) ≤ length (x ∷ list)
    by true less = omega (arith, less)
    by false less = omega (arith, less)

within-fewer : {X : Type 0} (capacity : Option ℕ) (list : List X) → length (within capacity list) ≤ length list
within-fewer None list = omega arith
within-fewer (Some n) list = omega (arith, length-take n list)

module _ {X : Type 0} (key : X → Pair) (fresh : Pair → X) (capacity : Option ℕ) where
  abbrev test : Pair → X → Bool
  test pair x = same_pair pair (key x)

  fewer_without : (list : List X) (pair : Pair) (x : X) → find_pair key list pair ≡ Some x → length (without_pair key list pair) + 1 ≤ length list
  fewer_without [] pair x found = absurd (cc)
  fewer_without (y ∷ list) pair x found = by (test pair y) found (fewer_without list pair x)
    where
      by : (b : Bool) → cond b (Some y) (find_pair key list pair) ≡ Some x → (find_pair key list pair ≡ Some x → length (without_pair key list pair) + 1 ≤ length list) →
          length (cond (not b) (y ∷ without_pair key list pair) (without_pair key list pair)) + 1 ≤ length (y ∷ list)
      by true here rest = let less = filter-fewer (λ y. not (test pair y)) list in omega (arith, less)
      by false later rest = let less = rest later in omega (arith, less)

  step-grows : (counted : Counted X) (pair : Pair) →
      length (looked_up key fresh capacity counted pair).list + counted.applied ≤ length counted.list + (looked_up key fresh capacity counted pair).applied
  step-grows counted pair = by (find_pair key counted.list pair) refl
    where
      by : (o : Option X) → find_pair key counted.list pair ≡ o →
          length (recent_of key fresh capacity counted.list pair o) + counted.applied ≤ length counted.list + applied_more counted.applied o
      by None none = let less = within-fewer capacity (fresh pair ∷ counted.list) in omega (arith, less)
      by (Some x) found = let less = fewer_without counted.list pair x found in omega (arith, less)

  -- the list is longer by those that are applied at most
  pub all-grow : (counted : Counted X) (pairs : List Pair) →
      length (all_looked_up key fresh capacity counted pairs).list + counted.applied ≤ length counted.list + (all_looked_up key fresh capacity counted pairs).applied
  all-grow counted [] = omega arith
  all-grow counted (pair ∷ pairs) =
      let next = looked_up key fresh capacity counted pair in
      let rest = all-grow next pairs in
      let first = step-grows counted pair in
      omega (arith, rest, first)

  -- how many are applied doesn't depend on how many were before
  pub all-added : (n : ℕ) (a b : Counted X) (pairs : List Pair) → a.list ≡ b.list → a.applied ≡ n + b.applied →
      (all_looked_up key fresh capacity a pairs).applied ≡ n + (all_looked_up key fresh capacity b pairs).applied
  all-added n a b [] list applied = applied
  all-added n a b (pair ∷ pairs) list applied =
      all-added n (looked_up key fresh capacity a pair) (looked_up key fresh capacity b pair) pairs
      (ap (λ (l : List X). recent key fresh capacity l pair) list)
      (ap (λ (l : List X). applied_more a.applied (find_pair key l pair)) list ∙ more (find_pair key b.list pair))
    where
      more : (o : Option X) → applied_more a.applied o ≡ n + applied_more b.applied o
      more None = omega (arith, applied)
      more (Some x) = applied

-- Tiles that are looked up with their bytes are applied as their pairs are that are looked up alone.
pub applied-alone : (fresh : Pair → Cached) (capacity : Option ℕ) (counted : Counted Cached) (pairs : List Pair) → ((pair : Pair) → by_pair (fresh pair) ≡ pair) →
    (all_looked_up by_pair fresh capacity counted pairs).applied
    ≡ counted.applied + (all_looked_up itself itself capacity (uncounted (pairs_of by_pair counted.list)) pairs).applied
applied-alone fresh capacity counted pairs new =
    ap (λ (c : Counted Pair). c.applied) (pairs_alone by_pair fresh capacity counted pairs new)
    ∙ all-added itself itself capacity counted.applied (counted_pairs by_pair counted) (uncounted (pairs_of by_pair counted.list)) pairs refl (omega arith)
