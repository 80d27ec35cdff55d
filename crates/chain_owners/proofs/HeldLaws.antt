-- Names, their lengths and their number, after a name came, went, or changed its number of owners.
use Rattle.std.proofs.Common.{◌≡◌, ℕ, ◌+◌, ◌-◌, ◌≤◌, Bool, true, false, cond, List, length, Option, Some, None, IfSome, sym, ap, ◌∙◌, inl, inr, arith}
use Rattle.std.specs.Option.{option_map}
use Rattle.std.specs.FinMap as map
use Rattle.std.specs.FinMap.{len-insert, len-remove}
use Rattle.std.proofs.lemmas.Bool.{cases_eq, cases_lt}
use Rattle.std.proofs.lemmas.Cmp.{nat_cmp_total}
use Rattle.chain_owners.specs.Values.{Named, map_values}
use Rattle.chain_owners.specs.Held.{Held, disowned, max_owners, owned, owners_of, with_owners, without_name}
use Rattle.chain_owners.proofs.MapValues.{map_values-insert, map_values-remove}
use Rattle.chain_owners.proofs.Ownership.{disowned-fewer, disowned-last, disowned-stopped, owned-more, owned-stopped}

-- What holds of all that has the same names, and of less by a name, holds after an owner came or went.
pub after-owned : (P : Held → Type 0) (held : Held) (name : ℕ) → P held → ((count : ℕ) → P (with_owners held name count)) → P (owned held name)
after-owned P held name same counted = elim (cases_eq (owners_of held name) max_owners) [
  | inl is ↦ rw (owned-stopped held name is) same
  | inr ne ↦ rw (owned-more held name ne) (counted (owners_of held name + 1))
]

pub after-disowned : (P : Held → Type 0) (held : Held) (name : ℕ) → P held → ((count : ℕ) → P (with_owners held name count)) → P (without_name held name) → P (disowned held name)
after-disowned P held name same counted gone = elim (cases_eq (owners_of held name) max_owners) [
  | inl is ↦ rw (disowned-stopped held name is) same
  | inr ne ↦ elim (cases_lt 1 (owners_of held name)) [
    | inl more ↦ rw (disowned-fewer held name ne more) (counted (owners_of held name - 1))
    | inr le ↦ rw (disowned-last held name le) gone
  ]
]

pub lengths-put : (content : Option (Named (List ℕ))) (lengths : Named ℕ) (name : ℕ) (bytes : List ℕ)
    → IfSome content (λ c. lengths ≡ map_values length c)
    → IfSome (option_map (λ (c : Named (List ℕ)). map.insert c name bytes) content) (λ c. map.insert lengths name (length bytes) ≡ map_values length c)
lengths-put None lengths name bytes is = tt
lengths-put (Some content) lengths name bytes is =
    ap (λ l. map.insert l name (length bytes)) is ∙ sym (map_values-insert length content name bytes)

pub lengths-removed : (content : Option (Named (List ℕ))) (lengths : Named ℕ) (name : ℕ)
    → IfSome content (λ c. lengths ≡ map_values length c)
    → IfSome (option_map (λ (c : Named (List ℕ)). map.remove c name) content) (λ c. map.remove lengths name ≡ map_values length c)
lengths-removed None lengths name is = tt
lengths-removed (Some content) lengths name is =
    ap (λ l. map.remove l name) is ∙ sym (map_values-remove length content name)

module _ {X : Type 0} (m : Named X) (name : ℕ) where
  counted_insert : (b : Bool) (n : ℕ) → cond b n (n + 1) ≤ n + 1
  counted_insert true n = omega arith
  counted_insert false n = omega arith

  counted_remove : (b : Bool) (n : ℕ) → cond b (n - 1) n ≤ n
  counted_remove true n = omega arith
  counted_remove false n = omega arith

  pub len-put : (x : X) → map.len (map.insert m name x) ≤ map.len m + 1
  len-put x = rw (len-insert nat_cmp_total m name x) (counted_insert _ (map.len m))

  pub len-removed : map.len (map.remove m name) ≤ map.len m
  len-removed = rw (len-remove nat_cmp_total m name) (counted_remove _ (map.len m))
