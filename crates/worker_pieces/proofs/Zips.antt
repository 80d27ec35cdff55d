-- Two lists whose items are related one by one, as jobs and what they made.
use Rattle.std.proofs.Common.{◌≡◌, ℕ, List, [], ◌∷◌, ◌++◌, ◌∙◌, map, take, drop, subst, refl, ap, sym, Result, Ok, Err, IfOk}
use Rattle.std.proofs.lemmas.List.{take-append-drop}
use Rattle.std.specs.List.{AllZip}

module _ {T U : Type 0} (R : T → U → Type 0) where
  -- such lists side by side
  pub AllZip-append : (xs zs : List T) (ys ws : List U) → AllZip R xs ys → AllZip R zs ws → AllZip R (xs ++ zs) (ys ++ ws)
  AllZip-append [] zs [] ws these those = those
  AllZip-append [] zs (y ∷ ys) ws these those = absurd these
  AllZip-append (x ∷ xs) zs [] ws these those = absurd these
  AllZip-append (x ∷ xs) zs (y ∷ ys) ws these those = (these.0, AllZip-append xs zs ys ws these.1 those)

  -- the parts of a list that is cut
  pub AllZip-cut : (at : ℕ) (xs front back : List T) (ys ws : List U) → front ≡ take at xs → back ≡ drop at xs
      → AllZip R front ys → AllZip R back ws → AllZip R xs (ys ++ ws)
  AllZip-cut at xs front back ys ws is-front is-back these those =
      subst (λ zs. AllZip R zs (ys ++ ws)) (take-append-drop at xs)
      (AllZip-append (take at xs) (drop at xs) ys ws (subst (λ zs. AllZip R zs ys) is-front these) (subst (λ zs. AllZip R zs ws) is-back those))

-- what was made of answers that are all Ok
module _ {T U E : Type 0} (R : T → Result U E → Type 0) where
  pub AllZip-made : (xs : List T) (made : List U) → AllZip R xs (map Ok made) → AllZip (λ x y. R x (Ok y)) xs made
  AllZip-made [] [] these = tt
  AllZip-made [] (y ∷ ys) these = absurd these
  AllZip-made (x ∷ xs) [] these = absurd these
  AllZip-made (x ∷ xs) (y ∷ ys) these = (these.0, AllZip-made xs ys these.1)

module _ {U E : Type 0} where
  map-snoc : (made : List U) (x : U) → map {B = Result U E} Ok (made ++ x ∷ []) ≡ map Ok made ++ Ok x ∷ []
  map-snoc [] x = refl
  map-snoc (y ∷ ys) x = ap (λ rs. Ok y ∷ rs) (map-snoc ys x)

  pub made-more : (made : List U) (x : U) (answers : List (Result U E)) (r : Result U E) → map Ok made ≡ answers → r ≡ Ok x → map Ok (made ++ x ∷ []) ≡ answers ++ r ∷ []
  made-more made x answers r are is = map-snoc made x ∙ (ap (λ rs. rs ++ Ok x ∷ []) are ∙ ap (λ s. answers ++ s ∷ []) (sym is))

  pub ok-more : (r : Result U E) (P Q : U → Type 0) → ((x : U) → P x → Q x) → IfOk r P → IfOk r Q
  ok-more (Ok x) P Q f h = f x h
  ok-more (Err e) P Q f h = h
