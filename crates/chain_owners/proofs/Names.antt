-- Finite maps from names, and the entries of hash maps.
use Rattle.std.proofs.Common.{◌≡◌, ◌≢◌, ℕ, cond, eqb, List, [], ◌∷◌, Option, Some, None, inl, inr, refl, sym, ap, ◌∙◌, arith}
use Rattle.std.specs.declared.cmp.Ordering.TheVariants.{Less, Equal, Greater}
use Rattle.std.specs.Ordering.{nat_cmp, eq_by_cmp, is_eq}
use Rattle.std.specs.Cmp.{nat_cmp_is}
use Rattle.std.specs.Map.{lookup}
use Rattle.std.specs.FinMap as map
use Rattle.std.specs.FinMap.{find, get-insert, get-remove, same_map, nat_cmp-IsAntisymmetric}
use Rattle.std.proofs.lemmas.Cmp.{nat_cmp_total}
use Rattle.std.proofs.lemmas.Bool.{cases_eq, cases_order, eq-eqb, ne_eqb}
use Rattle.chain_owners.specs.Values.{Named}

pub ties : (x y : ℕ) → eq_by_cmp nat_cmp x y ≡ eqb x y
ties x y = elim (cases_order x y) [
  | inl e ↦ ap is_eq (sym (nat_cmp_is x y Equal e)) ∙ sym (eq-eqb x y e)
  | inr h ↦ elim h [
    | inl lt ↦ ap is_eq (sym (nat_cmp_is x y Less lt)) ∙ sym (ne_eqb x y (λ e. absurd (omega arith)))
    | inr gt ↦ ap is_eq (sym (nat_cmp_is x y Greater gt)) ∙ sym (ne_eqb x y (λ e. absurd (omega arith)))
  ]
]

module _ {X : Type 0} where
  pub get-inserted : (m : Named X) (k : ℕ) (v : X) (q : ℕ) → map.get (map.insert m k v) q ≡ cond (eqb q k) (Some v) (map.get m q)
  get-inserted m k v q = get-insert nat_cmp_total m k v q ∙ ap (λ b. cond b (Some v) (map.get m q)) (ties q k)

  pub get-removed : (m : Named X) (k q : ℕ) → map.get (map.remove m k) q ≡ cond (eqb q k) None (map.get m q)
  get-removed m k q = get-remove nat_cmp_total m k q ∙ ap (λ b. cond b None (map.get m q)) (ties q k)

  pub get_here : (m : Named X) (k : ℕ) (v : X) → map.get (map.insert m k v) k ≡ Some v
  get_here m k v = get-inserted m k v k ∙ ap (λ b. cond b (Some v) (map.get m k)) (eq-eqb k k refl)

  pub get_elsewhere : (m : Named X) (k : ℕ) (v : X) (q : ℕ) → q ≢ k → map.get (map.insert m k v) q ≡ map.get m q
  get_elsewhere m k v q ne = get-inserted m k v q ∙ ap (λ b. cond b (Some v) (map.get m q)) (ne_eqb q k ne)

  pub get_gone : (m : Named X) (k : ℕ) → map.get (map.remove m k) k ≡ None
  get_gone m k = get-removed m k k ∙ ap (λ b. cond b None (map.get m k)) (eq-eqb k k refl)

  pub get_left : (m : Named X) (k q : ℕ) → q ≢ k → map.get (map.remove m k) q ≡ map.get m q
  get_left m k q ne = get-removed m k q ∙ ap (λ b. cond b None (map.get m q)) (ne_eqb q k ne)

  find-lookup : (es : List (ℕ × X)) (q : ℕ) → find nat_cmp q es ≡ lookup (eqb q) es
  find-lookup [] q = refl
  find-lookup (e ∷ es) q =
      ap (λ b. cond b (Some e.1) (find nat_cmp q es)) (ties q e.0) ∙ ap (cond (eqb q e.0) (Some e.1)) (find-lookup es q)

  pub same_names : (m n : Named X) → ((q : ℕ) → map.get m q ≡ map.get n q) → m ≡ n
  same_names m n is = same_map nat_cmp_total nat_cmp-IsAntisymmetric m n is

  turned : (k q : ℕ) (x y : Option X) → cond (eqb k q) x y ≡ cond (eqb q k) x y
  turned k q x y = elim (cases_eq k q) [
    | inl e ↦ ap (λ b. cond b x y) (eq-eqb k q e ∙ sym (eq-eqb q k (sym e)))
    | inr ne ↦ ap (λ b. cond b x y) (ne_eqb k q ne ∙ sym (ne_eqb q k (λ e. ne (sym e))))
  ]
