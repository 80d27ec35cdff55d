-- How many names a map has after one came or went.
use Rattle.std.proofs.Common.{◌≡◌, ℕ, ◌+◌, ◌-◌, ◌≤◌, true, false, cond, Option, Some, None, is_some, is_none, refl, inl, inr, sym, ap, ◌∙◌, arith}
use Rattle.std.specs.Option.{SomeIff}
use Rattle.std.specs.Cmp.{nat_cmp_total}
use Rattle.std.specs.FinMap as map
use Rattle.std.specs.FinMap.{len-insert, len-remove}
use Rattle.std.specs.FinMap.{get-empty}
use Rattle.std.specs.Ordering.{nat_cmp}
use Rattle.std.proofs.lemmas.Bool.{cases_lt, false≢true}
use Rattle.chain_owners.specs.Values.{Named}

module _ {X : Type 0} where
  pub len_set : (m : Named X) (name : ℕ) (v : X) → is_some (map.get m name) ≡ true → map.len (map.insert m name v) ≡ map.len m
  len_set m name v there = len-insert nat_cmp_total m name v ∙ ap (λ b. cond b (map.len m) (map.len m + 1)) there

  pub len_added : (m : Named X) (name : ℕ) (v : X) → is_some (map.get m name) ≡ false → map.len (map.insert m name v) ≡ map.len m + 1
  len_added m name v none = len-insert nat_cmp_total m name v ∙ ap (λ b. cond b (map.len m) (map.len m + 1)) none

  pub len_removed : (m : Named X) (name : ℕ) → is_some (map.get m name) ≡ true → map.len (map.remove m name) ≡ map.len m - 1
  len_removed m name there = len-remove nat_cmp_total m name ∙ ap (λ b. cond b (map.len m - 1) (map.len m)) there

  -- a name that is there is counted
  pub len_some : (m : Named X) (name : ℕ) → is_some (map.get m name) ≡ true → 1 ≤ map.len m
  len_some m name there = elim (cases_lt 0 (map.len m)) [
    | inl lt ↦ lt
    | inr ge ↦
        let none : map.get m name ≡ None = ap (λ (n : Named X). map.get n name) (map.empty_of_len m (omega (arith, ge))) ∙ get-empty nat_cmp name in
        absurd (false≢true (ap is_some (sym none) ∙ there))
  ]

  -- the number that was counted up where a name is new
  pub len_counted : (m : Named X) (name : ℕ) (v : X) (old more new : ℕ) → old ≡ map.len m
      → more ≡ cond (is_none (map.get m name)) 1 0 → new ≡ old + more → new ≡ map.len (map.insert m name v)
  len_counted m name v old more new was by is = is ∙ counted (map.get m name) refl
    where
      counted : (o : Option X) → map.get m name ≡ o → old + more ≡ map.len (map.insert m name v)
      counted None found = omega (arith, was, by ∙ ap (λ o. cond (is_none o) 1 0) found, len_added m name v (ap is_some found))
      counted (Some w) found = omega (arith, was, by ∙ ap (λ o. cond (is_none o) 1 0) found, len_set m name v (ap is_some found))

  pub none_there : (o : Option X) → is_some o ≡ false → o ≡ None
  none_there None is = refl
  none_there (Some x) is = absurd (false≢true (sym is))

-- a sum that was found to fit
pub sum_is : (r : Option ℕ) (fits : Type 0) (sum n : ℕ) → SomeIff r fits sum → r ≡ Some n → n ≡ sum
sum_is None fits sum n says is = absurd (let no : None ≡ Some n = is in cc)
sum_is (Some m) fits sum n says is = let same : Some m ≡ Some n = is in let eq : m ≡ n = cc in sym eq ∙ says.1
