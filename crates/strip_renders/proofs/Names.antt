-- How many names a chain has while pairs are looked up.
use Rattle.std.proofs.Common.{◌≡◌, ℕ, ◌+◌, ◌≤◌, ◌++◌, List, [], ◌∷◌, length, Option, Some, None, refl, sym, ap, subst, arith}
use Rattle.std.proofs.lemmas.List.{length-take}
use Rattle.std.proofs.lemmas.List.Sums.{fold-append}
use Rattle.model_states.specs.Cache.{Counted, Pair, all_looked_up, applied_more, find_pair, itself, looked_up, recent, recent_of, uncounted}
use Rattle.model_states.proofs.CacheLaws.{stays_in_capacity}
use Rattle.node_cache.specs.Stores.{AddsNoOther, AreWithin}
use Rattle.strip_renders.specs.Moments.{Moment}
use Rattle.strip_renders.specs.Strips.{counted, most_cached, most_names}

module _ (capacity : Option ℕ) where
  within-more : (limit : Option ℕ) (list : List Pair) (pair : Pair) → length (recent_of itself itself limit list pair None) ≤ length list + 1
  within-more None list pair = omega arith
  within-more (Some n) list pair = omega (arith, length-take n (pair ∷ list))

  -- a list has one pair more where one is evaluated
  one-length : (list : List Pair) (pair : Pair) (applied : ℕ) → length (recent itself itself capacity list pair) + applied ≤ length list + applied_more applied (find_pair itself list pair)
  one-length list pair applied = by (find_pair itself list pair) refl
    where
      by : (o : Option Pair) → find_pair itself list pair ≡ o → length (recent_of itself itself capacity list pair o) + applied ≤ length list + applied_more applied o
      by None none = omega (arith, within-more capacity list pair)
      by (Some x) found =
          let all : length (recent itself itself (Some (length list)) list pair) ≤ length list = stays_in_capacity itself itself (length list) (uncounted list) (pair ∷ []) (omega arith) in
          let few : length (recent_of itself itself capacity list pair (Some x)) ≤ length list =
          subst (λ (o : Option Pair). length (recent_of itself itself (Some (length list)) list pair o) ≤ length list) found all in
          omega (arith, few)

  applied-grows : (before : Counted Pair) (pairs : List Pair) → before.applied ≤ (all_looked_up itself itself capacity before pairs).applied
  applied-grows before [] = omega arith
  applied-grows before (pair ∷ pairs) =
      let rest : applied_more before.applied (find_pair itself before.list pair) ≤ (all_looked_up itself itself capacity before (pair ∷ pairs)).applied =
      applied-grows (looked_up itself itself capacity before pair) pairs in
      omega (arith, rest, more (find_pair itself before.list pair))
    where
      more : (o : Option Pair) → before.applied ≤ applied_more before.applied o
      more None = omega arith
      more (Some x) = omega arith

  list-grows : (before : Counted Pair) (pairs : List Pair)
      → length (all_looked_up itself itself capacity before pairs).list + before.applied ≤ length before.list + (all_looked_up itself itself capacity before pairs).applied
  list-grows before [] = omega arith
  list-grows before (pair ∷ pairs) =
      let after = all_looked_up itself itself capacity before (pair ∷ pairs) in
      let applied = applied_more before.applied (find_pair itself before.list pair) in
      let rest : length after.list + applied ≤ length (recent itself itself capacity before.list pair) + after.applied =
      list-grows (looked_up itself itself capacity before pair) pairs in
      omega (arith, rest, one-length before.list pair before.applied)

most-within : (capacity : Option ℕ) (pairs : List Pair) (count : ℕ) → AreWithin capacity pairs → length pairs ≤ count → length pairs ≤ most_cached capacity count
most-within None pairs count within few = few
most-within (Some capacity) pairs count within few = omega (arith, within, few)

-- after a part of the look-ups there is room for one name more
pub few-names : (first mid : Moment) (pairs rest : List Pair) (applied reused : ℕ)
    → counted mid.pairs applied reused ≡ all_looked_up itself itself first.capacity (uncounted first.pairs) pairs
    → AddsNoOther first.counts mid.counts first.cache_names mid.cache_names → length mid.cache_names ≤ length mid.pairs → AreWithin first.capacity mid.pairs
    → mid.counts.names + 1 ≤ most_names first (pairs ++ rest)
few-names first mid pairs rest applied reused is others few within =
    let part = all_looked_up itself itself first.capacity (uncounted first.pairs) pairs in
    let whole = all_looked_up itself itself first.capacity (uncounted first.pairs) (pairs ++ rest) in
    let joined : whole ≡ all_looked_up itself itself first.capacity part rest = fold-append (looked_up itself itself first.capacity) (uncounted first.pairs) pairs rest in
    let grows : part.applied ≤ whole.applied =
    subst (λ (c : Counted Pair). part.applied ≤ c.applied) (sym joined) (applied-grows first.capacity part rest) in
    let listed : length part.list + 0 ≤ length first.pairs + part.applied = list-grows first.capacity (uncounted first.pairs) pairs in
    let same : length mid.pairs ≡ length part.list = ap (λ (c : Counted Pair). length c.list) is in
    let count : length mid.pairs ≤ length first.pairs + whole.applied = omega (arith, same, listed, grows) in
    let most : length mid.pairs ≤ most_cached first.capacity (length first.pairs + whole.applied) =
    most-within first.capacity mid.pairs (length first.pairs + whole.applied) within count in
    omega (arith, others.names, few, most)
