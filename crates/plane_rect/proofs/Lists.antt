-- Lemmas on lists.
use Rattle.std.proofs.Common.{◌≡◌, ℕ, zero, suc, ◌-◌, ◌<◌, ◌⊎◌, inl, inr, List, [], ◌∷◌, ◌++◌, length, get_or, arith, All, AllPairs, Contains, length-append}
use Rattle.std.proofs.lemmas.Bool.{cases_lt}
use Rattle.std.proofs.lemmas.List.Elements.{Contains-get_or}
use Rattle.std.proofs.Math.ListN.{get_or-append}
use Rattle.std.proofs.Math.Seq.{get_or-append_right}

module _ {X : Type 0} where
  -- what holds of all that a list contains holds at each position
  pub All-from_contains : (P : X → Type 0) (xs : List X) → ((x : X) → Contains xs x → P x) → All P xs
  All-from_contains P xs f k d h = f (get_or xs k d) (Contains-get_or xs k d h)

  pub AllPairs-nil : (R : X → X → Type 0) → AllPairs R []
  AllPairs-nil R i j d p q = absurd (omega arith)

  -- each pair of one list, of the other, and across
  pub AllPairs-append : (R : X → X → Type 0) (xs ys : List X) → AllPairs R xs → AllPairs R ys
      → ((x y : X) → Contains xs x → Contains ys y → R x y) → AllPairs R (xs ++ ys)
  AllPairs-append R xs ys p q across i j d below long = elim (cases_lt j (length xs)) [
    | inl c ↦
        rw (get_or-append xs ys d i (omega arith), get_or-append xs ys d j c) (p i j d below c)
    | inr c ↦
        let inside : j - length xs < length ys = omega (arith, length-append xs ys) in
        elim (cases_lt i (length xs)) [
          | inl b ↦
              rw (get_or-append xs ys d i b, get_or-append_right xs ys j d c)
              (across (get_or xs i d) (get_or ys (j - length xs) d) (Contains-get_or xs i d b) (Contains-get_or ys (j - length xs) d inside))
          | inr b ↦
              rw (get_or-append_right xs ys i d b, get_or-append_right xs ys j d c)
              (q (i - length xs) (j - length xs) d (omega arith) inside)
        ]
  ]

  -- an element of a list is its first or one of the others
  pub Contains-cases : (x : X) (xs : List X) (y : X) → Contains (x ∷ xs) y → (x ≡ y) ⊎ Contains xs y
  Contains-cases x xs y h = at h.0 h.1 h.2
    where
      at : (k : ℕ) → k < length (x ∷ xs) → get_or (x ∷ xs) k y ≡ y → (x ≡ y) ⊎ Contains xs y
      at zero p e = inl e
      at (suc k) p e = inr (k, omega arith, e)

  pub Contains-first : (x : X) (xs : List X) (y : X) → x ≡ y → Contains (x ∷ xs) y
  Contains-first x xs y e = (0, omega arith, e)

  pub Contains-later : (x : X) (xs : List X) (y : X) → Contains xs y → Contains (x ∷ xs) y
  Contains-later x xs y h = (suc h.0, omega (arith, h.1), h.2)
