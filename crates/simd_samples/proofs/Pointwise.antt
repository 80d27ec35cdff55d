-- What is computed from vectors lane by lane. Such a computation F takes the heads of its lists to the head of its
-- result, and their rests to the rest; `refl` proves that where F is written out in vector operations.
use Rattle.std.proofs.Common.{◌≡◌, ℕ, zero, suc, ◌<◌, List, [], ◌∷◌, length, get_or, refl, ap, ◌∙◌, inl, inr, arith}
use Rattle.std.proofs.lemmas.Bool.{cases_lt}
use Rattle.std.proofs.lemmas.List.{get_or_past}
use Rattle.simd_samples.specs.Lanes.{Hold, AreLanes}

-- sixteen lanes below the bound that hold these values
abbrev pub Makes : ℕ → List ℕ → (ℕ → ℕ) → Type 0
Makes bound v value = AreLanes bound v × Hold (λ j. get_or v j 0) value

-- Past sixteen lanes 0 is read.
pub Makes-from_lanes : (bound : ℕ) (v : List ℕ) (value : ℕ → ℕ) → 0 < bound → length v ≡ 16 → Hold (λ j. get_or v j 0) value → ((j : ℕ) → j < 16 → value j < bound) → Makes bound v value
Makes-from_lanes bound v value some long holds small = (
  record {
    long = long;
    below = λ j. elim (cases_lt j 16) [
      | inl lt ↦ omega (arith, small j lt, holds j lt)
      | inr past ↦ omega (arith, get_or_past v j 0 (omega arith))
    ];
  },
  holds,
)

-- lanes that are others hold what those hold
pub Hold-of : {v w : List ℕ} {value : ℕ → ℕ} → v ≡ w → Hold (λ j. get_or w j 0) value → Hold (λ j. get_or v j 0) value
Hold-of same holds j lt = ap (λ l. get_or l j 0) same ∙ holds j lt

module _ (F : List ℕ → List ℕ → List ℕ → List ℕ → List ℕ) (f : ℕ → ℕ → ℕ → ℕ → ℕ)
    (step : (x y z w : ℕ) (xs ys zs ws : List ℕ) → F (x ∷ xs) (y ∷ ys) (z ∷ zs) (w ∷ ws) ≡ f x y z w ∷ F xs ys zs ws) where
  lane_of_four : (n j : ℕ) (xs ys zs ws : List ℕ) → length xs ≡ n → length ys ≡ n → length zs ≡ n → length ws ≡ n → j < n → get_or (F xs ys zs ws) j 0 ≡ f (get_or xs j 0) (get_or ys j 0) (get_or zs j 0) (get_or ws j 0)
  lane_of_four n j [] ys zs ws p q r s lt = absurd (omega arith)
  lane_of_four n j (x ∷ xs) [] zs ws p q r s lt = absurd (omega arith)
  lane_of_four n j (x ∷ xs) (y ∷ ys) [] ws p q r s lt = absurd (omega arith)
  lane_of_four n j (x ∷ xs) (y ∷ ys) (z ∷ zs) [] p q r s lt = absurd (omega arith)
  lane_of_four n zero (x ∷ xs) (y ∷ ys) (z ∷ zs) (w ∷ ws) p q r s lt = ap (λ l. get_or l 0 0) (step x y z w xs ys zs ws)
  lane_of_four n (suc j) (x ∷ xs) (y ∷ ys) (z ∷ zs) (w ∷ ws) p q r s lt =
      ap (λ l. get_or l (suc j) 0) (step x y z w xs ys zs ws)
      ∙ lane_of_four (length xs) j xs ys zs ws refl (omega arith) (omega arith) (omega arith) (omega arith)

  length_of_four : F [] [] [] [] ≡ [] → (xs ys zs ws : List ℕ) → length ys ≡ length xs → length zs ≡ length xs → length ws ≡ length xs → length (F xs ys zs ws) ≡ length xs
  length_of_four none [] [] [] [] q r s = ap length none
  length_of_four none [] [] [] (w ∷ ws) q r s = absurd (omega arith)
  length_of_four none [] [] (z ∷ zs) ws q r s = absurd (omega arith)
  length_of_four none [] (y ∷ ys) zs ws q r s = absurd (omega arith)
  length_of_four none (x ∷ xs) [] zs ws q r s = absurd (omega arith)
  length_of_four none (x ∷ xs) (y ∷ ys) [] ws q r s = absurd (omega arith)
  length_of_four none (x ∷ xs) (y ∷ ys) (z ∷ zs) [] q r s = absurd (omega arith)
  length_of_four none (x ∷ xs) (y ∷ ys) (z ∷ zs) (w ∷ ws) q r s =
      ap length (step x y z w xs ys zs ws) ∙ ap suc (length_of_four none xs ys zs ws (omega arith) (omega arith) (omega arith))

  -- the result of a computation on four vectors
  pub Makes-from_four : F [] [] [] [] ≡ [] → (bound : ℕ) (value : ℕ → ℕ) → 0 < bound → (xs ys zs ws : List ℕ) → length xs ≡ 16 → length ys ≡ 16 → length zs ≡ 16 → length ws ≡ 16
      → ((j : ℕ) → j < 16 → (f (get_or xs j 0) (get_or ys j 0) (get_or zs j 0) (get_or ws j 0) ≡ value j) × (value j < bound)) → Makes bound (F xs ys zs ws) value
  Makes-from_four none bound value some xs ys zs ws p q r s each =
      Makes-from_lanes bound (F xs ys zs ws) value some (length_of_four none xs ys zs ws (omega arith) (omega arith) (omega arith) ∙ p)
      (λ j lt. lane_of_four 16 j xs ys zs ws p q r s lt ∙ (each j lt).0) (λ j lt. (each j lt).1)

-- the same of two vectors
pub Makes-from_two : (F : List ℕ → List ℕ → List ℕ) (f : ℕ → ℕ → ℕ) → ((x y : ℕ) (xs ys : List ℕ) → F (x ∷ xs) (y ∷ ys) ≡ f x y ∷ F xs ys) → F [] [] ≡ [] → (bound : ℕ) (value : ℕ → ℕ) → 0 < bound → (xs ys : List ℕ) → length xs ≡ 16 → length ys ≡ 16
    → ((j : ℕ) → j < 16 → (f (get_or xs j 0) (get_or ys j 0) ≡ value j) × (value j < bound)) → Makes bound (F xs ys) value
Makes-from_two F f step none bound value some xs ys p q each =
    Makes-from_four (λ xs ys zs ws. F xs ys) (λ x y z w. f x y) (λ x y z w xs ys zs ws. step x y xs ys) none bound value some xs ys xs xs p q p p each
