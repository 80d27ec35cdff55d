-- How many tiles a cache has after one came, went or was used.
use Rattle.std.proofs.Common.{◌≡◌, ℕ, ◌+◌, ◌-◌, ◌<◌, ◌≤◌, eqb, Bool, true, false, cond, List, [], ◌∷◌, length, take, length-take, Option, Some, None, refl, arith}
use Rattle.std.specs.Option.{option_map_or}
use Rattle.std.specs.Map.{lookup, lookup_entry, remove_entry}
use Rattle.lru.specs.LruCache.{lru_cache, promoted, put_entries}
use Rattle.tile_chain.proofs.Overlays.{no-entry}

abbrev Entry : Type 0
Entry = ℕ × List ℕ

module _ (test : ℕ → Bool) where
  pub length-removed : (es : List Entry) → length (remove_entry test es) ≤ length es
  length-removed [] = omega arith
  length-removed (f ∷ es) = (elim (test f.0) as (λ b. length (cond b es (f ∷ remove_entry test es)) ≤ length (f ∷ es)) [
    | true ↦ omega arith
    | false ↦ omega (arith, length-removed es)
  ])

  length-found : (es : List Entry) (e : Entry) → lookup_entry test es ≡ Some e → length (remove_entry test es) + 1 ≡ length es
  length-found [] e = λ is. absurd (let no : None ≡ Some e = is in cc)
  length-found (f ∷ es) e = elim (test f.0) as (λ b. cond b (Some f) (lookup_entry test es) ≡ Some e → length (cond b es (f ∷ remove_entry test es)) + 1 ≡ length (f ∷ es)) [
    | true ↦ λ is. omega arith
    | false ↦ λ is. omega (arith, length-found es e is)
  ]

  pub length-promoted : (es : List Entry) → length (promoted test es) ≤ length es
  length-promoted es = by_entry (lookup_entry test es) refl
    where
      by_entry : (o : Option Entry) → lookup_entry test es ≡ o → length (option_map_or (λ e. e ∷ remove_entry test es) o es) ≤ length es
      by_entry None is = omega arith
      by_entry (Some e) is = omega (arith, length-found es e is)

pub length-put : (es : List Entry) (capacity name : ℕ) (bytes : List ℕ) → (lookup (eqb name) es ≡ None → length es < capacity) → length es ≤ capacity
    → length (put_entries eqb (lru_cache es capacity) name bytes) ≤ capacity
length-put es capacity name bytes room fits = by_entry (lookup_entry (eqb name) es) refl
  where
    by_entry : (o : Option Entry) → lookup_entry (eqb name) es ≡ o
        → length (option_map_or (λ e. (e.0, bytes) ∷ remove_entry (eqb name) es) o ((name, bytes) ∷ take (capacity - 1) es)) ≤ capacity
    by_entry None is = omega (arith, room (no-entry name es is), length-take {A = Entry})
    by_entry (Some e) is = omega (arith, fits, length-found (eqb name) es e is)
