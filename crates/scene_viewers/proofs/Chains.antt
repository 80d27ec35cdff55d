-- Lists of scenes that follow one another, and the last scenes of two of which one begins the other.
use Rattle.std.proofs.Common.{◌≡◌, ℕ, zero, suc, ◌+◌, ◌<◌, ◌≤◌, ◌⊎◌, inl, inr, ⊎_elim, List, [], ◌∷◌, ◌++◌, length, fold, Some, None, refl, sym, ap, subst, ◌∙◌, arith, slice_index_or}
use Rattle.std.specs.Prelude.{AllPairs}
use Rattle.std.proofs.lemmas.Bool.{cases_lt}
use Rattle.std.proofs.lemmas.List.{get_or-take, length-append}
use Rattle.std.proofs.Math.Seq.{get_or-append_seam}
use Rattle.scene_hub.specs.SceneLog.{Begins, last_of}
use Rattle.scene_hub.proofs.Prefixes.{begins_length}
use Rattle.model_scenes.specs.Follows.{IsChain}

module _ {S : Type 0} where
  ends : (xs : List S) (y : S) → (before : List S) × (z : S) × (fold (λ _ x. Some x) (Some y) xs ≡ Some z) × (y ∷ xs ≡ before ++ z ∷ [])
  ends [] y = ([], y, refl, refl)
  ends (x ∷ xs) y = let r = ends xs x in (y ∷ r.0, r.1, r.2, cc (r.3))

  -- a list with a last item ends with it
  last_at : (xs : List S) (z : S) → last_of xs ≡ Some z → (before : List S) × (xs ≡ before ++ z ∷ [])
  last_at [] z is = absurd (cc is)
  last_at (x ∷ xs) z is = let r = ends xs x in
      let same : r.1 ≡ z = cc (r.2, is) in
      (r.0, r.3 ∙ ap (λ w. r.0 ++ w ∷ []) same)

  -- a list that begins another has its items
  begun : (xs ys : List S) (k : ℕ) (d : S) → Begins xs ys → k < length xs → slice_index_or xs k d ≡ slice_index_or ys k d
  begun xs ys k d begins lt = sym (ap (λ l. slice_index_or l k d) begins) ∙ get_or-take (length xs) ys k d lt

  -- so it is a chain where the other is one
  pub chain-begun : (related : S → S → Type 0) (xs ys : List S) → Begins xs ys → IsChain related ys → IsChain related xs
  chain-begun related xs ys begins chain k d lt =
      let within : suc k < length ys = omega (arith, begins_length xs ys begins, lt) in
      subst (λ s. related s (slice_index_or xs (suc k) d)) (sym (begun xs ys k d begins (omega (arith, lt))))
      (subst (λ s. related (slice_index_or ys k d) s) (sym (begun xs ys (suc k) d begins lt)) (chain k d within))

  chain-from : (related : S → S → Type 0) → ((a b c : S) → related a b → related b c → related a c) → (xs : List S) → IsChain related xs
      → (i j : ℕ) (d : S) → i < j → j < length xs → related (slice_index_or xs i d) (slice_index_or xs j d)
  chain-from related transitive xs chain i zero d less lt = absurd (omega (arith, less))
  chain-from related transitive xs chain i (suc j) d less lt =
      ⊎_elim (λ (l : i < j). transitive (slice_index_or xs i d) (slice_index_or xs j d) (slice_index_or xs (suc j) d) (chain-from related transitive xs chain i j d l (omega (arith, lt))) (chain j d lt))
      (λ (le : j ≤ i). let same : j ≡ i = omega (arith, le, less) in
      subst (λ k. related (slice_index_or xs k d) (slice_index_or xs (suc j) d)) same (chain j d lt))
      (cases_lt i j)

  -- in a chain of a transitive relation each item is related to each later one
  pub chain-pairs : (related : S → S → Type 0) → ((a b c : S) → related a b → related b c → related a c) → (xs : List S) → IsChain related xs → AllPairs related xs
  chain-pairs related transitive xs chain i j d less lt = chain-from related transitive xs chain i j d less lt

  -- the last items of two lists of which one begins the other are one, or the first is related to the second
  pub last-related : (related : S → S → Type 0) (xs ys : List S) (s t : S) → Begins xs ys → last_of xs ≡ Some s → last_of ys ≡ Some t → AllPairs related ys
      → (s ≡ t) ⊎ related s t
  last-related related xs ys s t begins first second all =
      let a = last_at xs s first in
      let b = last_at ys t second in
      let na : length xs ≡ length a.0 + 1 = ap length a.1 ∙ length-append a.0 (s ∷ []) in
      let nb : length ys ≡ length b.0 + 1 = ap length b.1 ∙ length-append b.0 (t ∷ []) in
      let le = begins_length xs ys begins in
      let at_a : slice_index_or ys (length a.0) s ≡ s =
      sym (begun xs ys (length a.0) s begins (omega (arith, na))) ∙ (ap (λ l. slice_index_or l (length a.0) s) a.1 ∙ get_or-append_seam a.0 s [] s) in
      let at_b : slice_index_or ys (length b.0) s ≡ t = ap (λ l. slice_index_or l (length b.0) s) b.1 ∙ get_or-append_seam b.0 t [] s in
      ⊎_elim (λ (l : length a.0 < length b.0). inr (subst (λ x. related s x) at_b (subst (λ x. related x (slice_index_or ys (length b.0) s)) at_a
      (all (length a.0) (length b.0) s l (omega (arith, nb))))))
      (λ (ge : length b.0 ≤ length a.0). let same : length a.0 ≡ length b.0 = omega (arith, ge, na, nb, le) in
      inl (sym at_a ∙ (ap (λ k. slice_index_or ys k s) same ∙ at_b)))
      (cases_lt (length a.0) (length b.0))
