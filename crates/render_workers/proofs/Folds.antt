-- Pairs that are looked up after others.
use Rattle.std.proofs.Common.{◌≡◌, ℕ, ◌+◌, ◌≤◌, List, [], ◌∷◌, ◌++◌, length, Option, Some, None, refl, sym, ap, ◌∙◌, append-nil, arith}
use Rattle.std.proofs.lemmas.List.Sums.{fold-append}
use Rattle.model_states.specs.Cache.{Counted, Pair, all_looked_up, applied_more, find_pair, itself, looked_up, recent_of, reused_more, uncounted}
use Rattle.node_cache.specs.Stores.{AreWithin}
use Rattle.strip_renders.specs.Moments.{Moment}
use Rattle.strip_renders.specs.Strips.{counted, most_cached, most_names}
use Rattle.strip_renders.proofs.Names.{few-names}

-- so many more are counted
abbrev pub more : {X : Type 0} → ℕ → ℕ → Counted X → Counted X
more applied reused c = counted c.list (applied + c.applied) (reused + c.reused)

module _ {X : Type 0} (key : X → Pair) (fresh : Pair → X) (capacity : Option ℕ) where
  one-shifted : (applied reused : ℕ) (before : Counted X) (pair : Pair)
      → looked_up key fresh capacity (more applied reused before) pair ≡ more applied reused (looked_up key fresh capacity before pair)
  one-shifted applied reused before pair = by (find_pair key before.list pair)
    where
      by : (o : Option X) → counted (recent_of key fresh capacity before.list pair o) (applied_more (applied + before.applied) o) (reused_more (reused + before.reused) o)
          ≡ counted (recent_of key fresh capacity before.list pair o) (applied + applied_more before.applied o) (reused + reused_more before.reused o)
      by None =
          let same : applied + before.applied + 1 ≡ applied + (before.applied + 1) = omega arith in
          ap (λ (n : ℕ). counted (recent_of key fresh capacity before.list pair None) n (reused + before.reused)) same
      by (Some x) =
          let same : reused + before.reused + 1 ≡ reused + (before.reused + 1) = omega arith in
          ap (λ (n : ℕ). counted (recent_of key fresh capacity before.list pair (Some x)) (applied + before.applied) n) same

  -- counts of before don't matter to the list, and are added
  pub shifted : (applied reused : ℕ) (before : Counted X) (pairs : List Pair)
      → all_looked_up key fresh capacity (more applied reused before) pairs ≡ more applied reused (all_looked_up key fresh capacity before pairs)
  shifted applied reused before [] = refl
  shifted applied reused before (pair ∷ pairs) =
      ap (λ (c : Counted X). all_looked_up key fresh capacity c pairs) (one-shifted applied reused before pair)
      ∙ shifted applied reused (looked_up key fresh capacity before pair) pairs

  recounted : (list : List X) (applied reused : ℕ) → counted list applied reused ≡ more applied reused (uncounted list)
  recounted list applied reused =
      let first : applied ≡ applied + 0 = omega arith in
      let second : reused ≡ reused + 0 = omega arith in
      ap (λ (n : ℕ). counted list n reused) first ∙ ap (λ (n : ℕ). counted list (applied + 0) n) second

  pub looked-counted : (list : List X) (applied reused : ℕ) (pairs : List Pair)
      → all_looked_up key fresh capacity (counted list applied reused) pairs ≡ more applied reused (all_looked_up key fresh capacity (uncounted list) pairs)
  looked-counted list applied reused pairs =
      ap (λ (c : Counted X). all_looked_up key fresh capacity c pairs) (recounted list applied reused)
      ∙ shifted applied reused (uncounted list) pairs

  -- some pairs, and then others
  pub looked-both : (list : List X) (first second : List Pair)
      → all_looked_up key fresh capacity (uncounted list) (first ++ second)
      ≡ more (all_looked_up key fresh capacity (uncounted list) first).applied (all_looked_up key fresh capacity (uncounted list) first).reused
      (all_looked_up key fresh capacity (uncounted (all_looked_up key fresh capacity (uncounted list) first).list) second)
  looked-both list first second =
      let c = all_looked_up key fresh capacity (uncounted list) first in
      fold-append (looked_up key fresh capacity) (uncounted list) first second
      ∙ looked-counted c.list c.applied c.reused second

  pub list-both : (list : List X) (first second : List Pair)
      → (all_looked_up key fresh capacity (uncounted (all_looked_up key fresh capacity (uncounted list) first).list) second).list
      ≡ (all_looked_up key fresh capacity (uncounted list) (first ++ second)).list
  list-both list first second = sym (ap (λ (c : Counted X). c.list) (looked-both list first second))

  pub pairs-both : (list mid last : List X) (first second : List Pair) (applied reused applied' reused' : ℕ)
      → counted mid applied reused ≡ all_looked_up key fresh capacity (uncounted list) first
      → counted last applied' reused' ≡ all_looked_up key fresh capacity (uncounted mid) second
      → counted last (applied + applied') (reused + reused') ≡ all_looked_up key fresh capacity (uncounted list) (first ++ second)
  pairs-both list mid last first second applied reused applied' reused' one two =
      ap (more applied reused) two
      ∙ sym (looked-counted mid applied reused second)
      ∙ ap (λ (c : Counted X). all_looked_up key fresh capacity c second) one
      ∙ sym (fold-append (looked_up key fresh capacity) (uncounted list) first second)

-- ---- how many

most-few : (capacity : Option ℕ) (count : ℕ) → most_cached capacity count ≤ count
most-few None count = omega arith
most-few (Some capacity) count = omega arith

-- A list has at most one pair more for each that was evaluated: as many names as pairs in a chain that had none.
pub few-listed : (first mid : Moment) (pairs : List Pair) (applied reused : ℕ)
    → counted mid.pairs applied reused ≡ all_looked_up itself itself first.capacity (uncounted first.pairs) pairs
    → AreWithin first.capacity mid.pairs → length mid.pairs ≤ length first.pairs + applied
few-listed first mid pairs applied reused is within =
    let before = record first { counts = record first.counts { names = 0 }; cache_names = [] } in
    let after = record mid { counts = record mid.counts { names = length mid.pairs }; cache_names = names mid.pairs } in
    let few : length mid.pairs + 1 ≤ most_names before (pairs ++ []) =
    few-names before after pairs [] applied reused is (record { names = omega (arith, count mid.pairs) }) (omega (arith, count mid.pairs)) within in
    let whole : (all_looked_up itself itself first.capacity (uncounted first.pairs) (pairs ++ [])).applied ≡ applied =
    ap (λ (ps : List Pair). (all_looked_up itself itself first.capacity (uncounted first.pairs) ps).applied) (append-nil pairs) ∙ ap (λ (c : Counted Pair). c.applied) (sym is) in
    let capped : most_cached first.capacity (length first.pairs + (all_looked_up itself itself first.capacity (uncounted first.pairs) (pairs ++ [])).applied)
    ≤ length first.pairs + (all_looked_up itself itself first.capacity (uncounted first.pairs) (pairs ++ [])).applied =
    most-few first.capacity (length first.pairs + (all_looked_up itself itself first.capacity (uncounted first.pairs) (pairs ++ [])).applied) in
    omega (arith, few, whole, capped)
  where
    names : List Pair → List ℕ
    names [] = []
    names (pair ∷ pairs) = 0 ∷ names pairs

    count : (pairs : List Pair) → length (names pairs) ≡ length pairs
    count [] = refl
    count (pair ∷ pairs) = omega (arith, count pairs)

pub most-more : (capacity : Option ℕ) (few many : ℕ) → few ≤ many → most_cached capacity few ≤ most_cached capacity many
most-more None few many less = less
most-more (Some capacity) few many less = omega (arith, less)
