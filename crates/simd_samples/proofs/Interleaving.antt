-- Vectors whose lanes are put together by turns, or taken from one vector twice.
use Rattle.std.proofs.Common.{◌≡◌, ℕ, ◌+◌, ◌-◌, ◌*◌, ◌/◌, ◌%◌, ◌<◌, Bool, true, false, ltb, cond, refl, sym, ap, ◌∙◌, arith, ltb-true, ltb-false}
use Rattle.simd_samples.specs.Lanes.{Hold, HoldTwo, HoldThree}

-- the samples in two vectors one after the other that hold s by turns
abbrev pub by_turns_of_two : (ℕ → ℕ) → ℕ → ℕ
by_turns_of_two s k = s (2 * (k % 16) + k / 16)

pub HoldTwo-by_turns : (s xs ys : ℕ → ℕ) → Hold xs (λ j. s (2 * j)) → Hold ys (λ j. s (2 * j + 1)) → HoldTwo xs ys (by_turns_of_two s)
HoldTwo-by_turns s xs ys a b = (λ j lt. a j lt ∙ ap s (omega arith), λ j lt. b j lt ∙ ap s (omega arith))

-- the samples in three vectors
abbrev pub by_turns_of_three : (ℕ → ℕ) → ℕ → ℕ
by_turns_of_three s k = s (3 * (k % 16) + k / 16)

pub HoldThree-by_turns : (s xs ys zs : ℕ → ℕ) → Hold xs (λ j. s (3 * j)) → Hold ys (λ j. s (3 * j + 1)) → Hold zs (λ j. s (3 * j + 2)) → HoldThree xs ys zs (by_turns_of_three s)
HoldThree-by_turns s xs ys zs a b c = (λ j lt. a j lt ∙ ap s (omega arith), λ j lt. b j lt ∙ ap s (omega arith), λ j lt. c j lt ∙ ap s (omega arith))

-- the lanes of a vector twice
abbrev pub repeated : (ℕ → ℕ) → ℕ → ℕ
repeated xs k = xs (k % 16)

pub HoldTwo-repeated : (xs : ℕ → ℕ) → HoldTwo xs xs (repeated xs)
HoldTwo-repeated xs = (λ j lt. ap xs (omega arith), λ j lt. ap xs (omega arith))

-- the lanes of two vectors one after the other
abbrev pub joined : (ℕ → ℕ) → (ℕ → ℕ) → ℕ → ℕ
joined xs ys k = cond (ltb k 16) (xs k) (ys (k - 16))

pub HoldTwo-joined : (xs ys : ℕ → ℕ) → HoldTwo xs ys (joined xs ys)
HoldTwo-joined xs ys = (λ j lt. first j lt (ltb j 16) refl, λ j lt. second j (ltb (16 + j) 16) refl)
  where
    first : (j : ℕ) → j < 16 → (t : Bool) → ltb j 16 ≡ t → xs j ≡ cond t (xs j) (ys (j - 16))
    first j lt true e = refl
    first j lt false e = absurd (omega (arith, ltb-false _ _ e))

    second : (j : ℕ) (t : Bool) → ltb (16 + j) 16 ≡ t → ys j ≡ cond t (xs (16 + j)) (ys (16 + j - 16))
    second j true e = absurd (omega (arith, ltb-true _ _ e))
    second j false e = ap ys (omega arith)

-- lane j of the second vector where a test says so, and else of the first
pub joined-chosen : (xs ys : ℕ → ℕ) (j : ℕ) → j < 16 → (t : Bool) → joined xs ys (cond t (16 + j) j) ≡ cond t (ys j) (xs j)
joined-chosen xs ys j lt true = sym ((HoldTwo-joined xs ys).1 j lt)
joined-chosen xs ys j lt false = sym ((HoldTwo-joined xs ys).0 j lt)
