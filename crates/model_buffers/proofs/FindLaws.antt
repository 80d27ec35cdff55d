-- The laws of lists of names.
use Rattle.std.proofs.Common.{◌≡◌, ◌≢◌, ℕ, zero, suc, ◌<◌, Bool, true, false, cond, List, [], ◌∷◌, ◌++◌, map, length, get_or, Some, None, refl, sym, ap, ◌∙◌, arith}
use Rattle.std.specs.Option.{option_map}
use Rattle.std.specs.Str.{bytes_eq}
use Rattle.std.proofs.lemmas.List.{get_or-map, length-map}
use Rattle.std.proofs.lemmas.List.Quantifiers.{all_pairs_push}
use Rattle.std.proofs.lemmas.Slice.Eq.{bytes_eq-Decides}
use Rattle.model_buffers.specs.Layout.{find, AreDistinct}

pub same_name : (name : List ℕ) → bytes_eq name name ≡ true
same_name name = (bytes_eq-Decides name name).1 refl

pub name_from_test : (a b : List ℕ) → bytes_eq a b ≡ true → a ≡ b
name_from_test a b same = (bytes_eq-Decides a b).0 same

pub apart_test : (a b : List ℕ) → a ≢ b → bytes_eq a b ≡ false
apart_test a b apart =
    elim (bytes_eq a b) as (λ r. bytes_eq a b ≡ r → r ≡ false) [
      | true ↦ λ e. absurd (apart (name_from_test a b e))
      | false ↦ λ _. refl
    ] refl

module _ {X : Type 0} where
  -- a name that is there stays when an entry is added
  pub find-kept : (entries : List (List ℕ × X)) (q k : List ℕ) (v x : X) → find entries q ≡ Some x → find (entries ++ (k, v) ∷ []) q ≡ Some x
  find-kept [] q k v x there = absurd (cc)
  find-kept (e ∷ entries) q k v x there = cases (bytes_eq q e.0) there (find-kept entries q k v x)
    where
      cases : (b : Bool) → cond b (Some e.1) (find entries q) ≡ Some x
          → (find entries q ≡ Some x → find (entries ++ (k, v) ∷ []) q ≡ Some x) → cond b (Some e.1) (find (entries ++ (k, v) ∷ []) q) ≡ Some x
      cases true h rest = h
      cases false h rest = rest h

  -- a name that is not there is found exactly where it is the added one
  pub find-added : (entries : List (List ℕ × X)) (q k : List ℕ) (v : X) → find entries q ≡ None → find (entries ++ (k, v) ∷ []) q ≡ cond (bytes_eq q k) (Some v) None
  find-added [] q k v none = refl
  find-added (e ∷ entries) q k v none = cases (bytes_eq q e.0) none (find-added entries q k v)
    where
      cases : (b : Bool) → cond b (Some e.1) (find entries q) ≡ None
          → (find entries q ≡ None → find (entries ++ (k, v) ∷ []) q ≡ cond (bytes_eq q k) (Some v) None)
          → cond b (Some e.1) (find (entries ++ (k, v) ∷ []) q) ≡ cond (bytes_eq q k) (Some v) None
      cases true h rest = absurd (cc)
      cases false h rest = rest h

  pub find-new : (entries : List (List ℕ × X)) (k : List ℕ) (v : X) → find entries k ≡ None → find (entries ++ (k, v) ∷ []) k ≡ Some v
  find-new entries k v none = find-added entries k k v none ∙ rw (same_name k) refl

  -- another name is found as before
  pub find-other : (entries : List (List ℕ × X)) (q k : List ℕ) (v : X) → q ≢ k → find (entries ++ (k, v) ∷ []) q ≡ find entries q
  find-other entries q k v apart =
      elim (find entries q) as (λ o. find entries q ≡ o → find (entries ++ (k, v) ∷ []) q ≡ o) [
        | Some x ↦ λ e. find-kept entries q k v x e
        | None ↦ λ e. find-added entries q k v e ∙ rw (apart_test q k apart) refl
      ] refl

  -- a name that is not there differs from each that is
  pub unlisted : (entries : List (List ℕ × X)) (k : List ℕ) → find entries k ≡ None → (i : ℕ) (d : List ℕ × X) → i < length entries → (get_or entries i d).0 ≢ k
  unlisted [] k none i d h = absurd (omega arith)
  unlisted (e ∷ entries) k none i d h = cases (bytes_eq k e.0) refl none i h (λ n j below. unlisted entries k n j d below)
    where
      cases : (b : Bool) → bytes_eq k e.0 ≡ b → cond b (Some e.1) (find entries k) ≡ None → (i : ℕ) → i < length (e ∷ entries)
          → (find entries k ≡ None → (j : ℕ) → j < length entries → (get_or entries j d).0 ≢ k) → (get_or (e ∷ entries) i d).0 ≢ k
      cases true t n i h rest = absurd (cc)
      cases false t n zero h rest = λ same. absurd (cc (t, same_name k, same))
      cases false t n (suc i) h rest = rest n i (omega arith)

  pub AreDistinct-added : (entries : List (List ℕ × X)) (k : List ℕ) (v : X) → find entries k ≡ None → AreDistinct entries → AreDistinct (entries ++ (k, v) ∷ [])
  AreDistinct-added entries k v none distinct =
      all_pairs_push (λ (a b : List ℕ × X). a.0 ≢ b.0) entries (k, v) distinct (unlisted entries k none)

  -- values that are changed each under its name
  pub find-mapped : {Y : Type 0} (change : List ℕ → X → Y) (entries : List (List ℕ × X)) (q : List ℕ)
      → find (map (λ (e : List ℕ × X). (e.0, change e.0 e.1)) entries) q ≡ option_map (change q) (find entries q)
  find-mapped change [] q = refl
  find-mapped {Y = Y} change (e ∷ entries) q = cases (bytes_eq q e.0) refl (find-mapped change entries q)
    where
      cases : (b : Bool) → bytes_eq q e.0 ≡ b
          → find (map (λ (e : List ℕ × X). (e.0, change e.0 e.1)) entries) q ≡ option_map (change q) (find entries q)
          → cond b (Some (change e.0 e.1)) (find (map (λ (e : List ℕ × X). (e.0, change e.0 e.1)) entries) q) ≡ option_map (change q) (cond b (Some e.1) (find entries q))
      cases true t rest = ap (λ (k : List ℕ). Some (change k e.1)) (sym (name_from_test q e.0 t))
      cases false t rest = rest

  -- names are as distinct as where the values are changed
  pub AreDistinct-from_mapped : {Y : Type 0} (change : X → Y) (entries : List (List ℕ × X)) → AreDistinct (map (λ (e : List ℕ × X). (e.0, change e.1)) entries) → AreDistinct entries
  AreDistinct-from_mapped {Y = Y} change entries distinct i j d before inside =
      let F : List ℕ × X → List ℕ × Y = λ e. (e.0, change e.1) in
      let first = get_or-map F entries i d (F d) (omega arith) in
      let second = get_or-map F entries j d (F d) inside in
      λ same. distinct i j (F d) before (omega (arith, length-map entries F)) (ap (λ (e : List ℕ × Y). e.0) first ∙ same ∙ sym (ap (λ (e : List ℕ × Y). e.0) second))

  -- where no name stands twice, each entry is found by its name
  pub find-listed : (entries : List (List ℕ × X)) → AreDistinct entries → (i : ℕ) (d : List ℕ × X) → i < length entries
      → find entries (get_or entries i d).0 ≡ Some (get_or entries i d).1
  find-listed [] distinct i d h = absurd (omega arith)
  find-listed (e ∷ entries) distinct zero d h = rw (same_name e.0) refl
  find-listed (e ∷ entries) distinct (suc i) d h =
      let apart : (get_or entries i d).0 ≢ e.0 = λ same. distinct zero (suc i) d (omega arith) h (sym same) in
      rw (apart_test (get_or entries i d).0 e.0 apart)
      (find-listed entries (λ a b d before below. distinct (suc a) (suc b) d (omega arith) (omega arith)) i d (omega arith))
