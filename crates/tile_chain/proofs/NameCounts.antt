-- How many names a map has.
use Rattle.std.proofs.Common.{◌≡◌, ℕ, ◌+◌, ◌≤◌, Bool, true, false, true≢false, cond, inl, inr, List, [], ◌∷◌, map, Option, Some, None, is_some, refl, sym, ap, ap₂, ◌∙◌, arith}
use Rattle.std.specs.Ordering.{nat_cmp, eq_by_cmp}
use Rattle.std.specs.Option.{option_map}
use Rattle.std.specs.FinMap as map
use Rattle.std.specs.FinMap.{entries, find, from_entries, get-entries, get-from_entries, len-empty, len-insert}
use Rattle.std.proofs.lemmas.Bool.{cases_lt}
use Rattle.std.proofs.lemmas.Cmp.{nat_cmp_total}
use Rattle.chain_owners.specs.Values.{Named, map_values}
use Rattle.chain_owners.proofs.Names.{same_names}

pub is_some-map : {X Y : Type 0} (f : X → Y) (o : Option X) → is_some (option_map f o) ≡ is_some o
is_some-map f None = refl
is_some-map f (Some x) = refl

grown : (b : Bool) (n : ℕ) → n ≤ cond b n (n + 1)
grown true n = omega arith
grown false n = omega arith

counted : (b : Bool) (n : ℕ) → (n ≡ 0 → b ≡ false) → 1 ≤ cond b n (n + 1)
counted false n none = omega arith
counted true n none = elim (cases_lt 0 n) [
  | inl some ↦ some
  | inr le ↦ absurd (true≢false (none (omega arith)))
]

module _ {X : Type 0} where
  -- a name more is not fewer
  pub len-inserted : (m : Named X) (k : ℕ) (v : X) → map.len m ≤ map.len (map.insert m k v)
  len-inserted m k v = rw (len-insert nat_cmp_total m k v) (grown _ (map.len m))

  none_there : (m : Named X) (k : ℕ) → map.len m ≡ 0 → map.contains_key m k ≡ false
  none_there m k none = ap (λ (n : Named X). map.contains_key n k) (map.empty_of_len m none) ∙ ap is_some (map.get-empty nat_cmp k)

  -- a map with a name has one
  pub len-some : (m : Named X) (k : ℕ) (v : X) → 1 ≤ map.len (map.insert m k v)
  len-some m k v = rw (len-insert nat_cmp_total m k v) (counted _ (map.len m) (none_there m k))

module _ {X Y : Type 0} (f : X → Y) where
  abbrev mapped : List (ℕ × X) → List (ℕ × Y)
  mapped es = map {B = ℕ × Y} (λ (e : ℕ × X). (e.0, f e.1)) es

  cond-map : (b : Bool) (x : X) (o : Option X) → cond b (Some (f x)) (option_map f o) ≡ option_map f (cond b (Some x) o)
  cond-map true x o = refl
  cond-map false x o = refl

  find-mapped : (q : ℕ) (es : List (ℕ × X)) → find nat_cmp q (mapped es) ≡ option_map f (find nat_cmp q es)
  find-mapped q [] = refl
  find-mapped q (e ∷ es) = ap (cond (eq_by_cmp nat_cmp q e.0) (Some (f e.1))) (find-mapped q es) ∙ cond-map (eq_by_cmp nat_cmp q e.0) e.1 (find nat_cmp q es)

  same-key : (es : List (ℕ × X)) (q : ℕ) → map.contains_key (from_entries {R = nat_cmp} (mapped es)) q ≡ map.contains_key (from_entries {R = nat_cmp} es) q
  same-key es q =
      ap is_some (get-from_entries nat_cmp_total (mapped es) q ∙ find-mapped q es) ∙ is_some-map f (find nat_cmp q es)
      ∙ ap is_some (sym (get-from_entries nat_cmp_total es q))

  len-mapped : (es : List (ℕ × X)) → map.len (from_entries {R = nat_cmp} (mapped es)) ≡ map.len (from_entries {R = nat_cmp} es)
  len-mapped [] = len-empty nat_cmp Y ∙ sym (len-empty nat_cmp X)
  len-mapped (e ∷ es) =
      len-insert nat_cmp_total (from_entries (mapped es)) e.0 (f e.1)
      ∙ ap₂ (λ b n. cond b n (n + 1)) (same-key es e.0) (len-mapped es)
      ∙ sym (len-insert nat_cmp_total (from_entries es) e.0 e.1)

  -- a function of each value leaves as many names
  pub len-map_values : (m : Named X) → map.len (map_values f m) ≡ map.len m
  unfolding map_values
  len-map_values m = len-mapped (entries m) ∙ ap map.len (same_names (from_entries (entries m)) m (λ q.
      get-from_entries nat_cmp_total (entries m) q ∙ sym (get-entries m q)))
