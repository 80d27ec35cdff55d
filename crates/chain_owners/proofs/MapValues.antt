-- Maps with a function of each value.
use Rattle.std.proofs.Common.{◌≡◌, ℕ, Bool, true, false, cond, eqb, List, [], ◌∷◌, map, Option, Some, None, refl, sym, ap, ◌∙◌}
use Rattle.std.specs.Ordering.{nat_cmp, eq_by_cmp}
use Rattle.std.specs.Option.{option_map}
use Rattle.std.specs.FinMap as map
use Rattle.std.specs.FinMap.{find, entries, get-entries, get-from_entries, get-empty}
use Rattle.std.proofs.lemmas.Cmp.{nat_cmp_total}
use Rattle.chain_owners.specs.Values.{Named, map_values}
use Rattle.chain_owners.proofs.Names.{get-inserted, get-removed, same_names}

module _ {X Y : Type 0} (f : X → Y) where
  cond-map : (b : Bool) (x : X) (o : Option X) → cond b (Some (f x)) (option_map f o) ≡ option_map f (cond b (Some x) o)
  cond-map true x o = refl
  cond-map false x o = refl

  cond-map_none : (b : Bool) (o : Option X) → cond b None (option_map f o) ≡ option_map f (cond b None o)
  cond-map_none true o = refl
  cond-map_none false o = refl

  find-map : (q : ℕ) (es : List (ℕ × X)) → find nat_cmp q (map {B = ℕ × Y} (λ (e : ℕ × X). (e.0, f e.1)) es) ≡ option_map f (find nat_cmp q es)
  find-map q [] = refl
  find-map q (e ∷ es) = ap (cond (eq_by_cmp nat_cmp q e.0) (Some (f e.1))) (find-map q es) ∙ cond-map (eq_by_cmp nat_cmp q e.0) e.1 (find nat_cmp q es)

  pub get-map_values : (m : Named X) (q : ℕ) → map.get (map_values f m) q ≡ option_map f (map.get m q)
  unfolding map_values
  get-map_values m q = get-from_entries nat_cmp_total _ q ∙ find-map q (entries m) ∙ ap (option_map f) (sym (get-entries m q))

  pub map_values-insert : (m : Named X) (k : ℕ) (v : X) → map_values f (map.insert m k v) ≡ map.insert (map_values f m) k (f v)
  map_values-insert m k v = same_names _ _ (λ q.
      get-map_values (map.insert m k v) q ∙ ap (option_map f) (get-inserted m k v q) ∙ sym (cond-map (eqb q k) v (map.get m q))
      ∙ sym (get-inserted (map_values f m) k (f v) q ∙ ap (cond (eqb q k) (Some (f v))) (get-map_values m q)))

  pub map_values-remove : (m : Named X) (k : ℕ) → map_values f (map.remove m k) ≡ map.remove (map_values f m) k
  map_values-remove m k = same_names _ _ (λ q.
      get-map_values (map.remove m k) q ∙ ap (option_map f) (get-removed m k q) ∙ sym (cond-map_none (eqb q k) (map.get m q))
      ∙ sym (get-removed (map_values f m) k q ∙ ap (cond (eqb q k) None) (get-map_values m q)))

  same_option : (g : X → Y) (o : Option X) → ((x : X) → o ≡ Some x → f x ≡ g x) → option_map f o ≡ option_map g o
  same_option g None same = refl
  same_option g (Some x) same = ap (λ y. Some y) (same x refl)

  pub map_values-empty : map_values f map.empty ≡ map.empty
  map_values-empty = same_names _ _ (λ q.
      get-map_values map.empty q ∙ ap (option_map f) (get-empty nat_cmp q) ∙ sym (get-empty nat_cmp q))

pub map_values-same : {X Y : Type 0} (f g : X → Y) (m : Named X) → ((q : ℕ) (x : X) → map.get m q ≡ Some x → f x ≡ g x) → map_values f m ≡ map_values g m
map_values-same f g m same = same_names _ _ (λ q.
    get-map_values f m q ∙ same_option f g (map.get m q) (same q) ∙ sym (get-map_values g m q))
