-- What is picked of the first numbers of a sequence.
use Rattle.std.proofs.Common.{◌≡◌, ℕ, zero, suc, ◌+◌, ◌<◌, ◌≤◌, max, min, sym, ap, ◌∙◌, inl, inr, arith}
use Rattle.std.proofs.lemmas.Bool.{cases_lt}
use Rattle.area_kernels.specs.Sequences.{Picks, best}

-- sequences that agree as far as they are read
pub best-same : (pick : ℕ → ℕ → ℕ) (n : ℕ) (f g : ℕ → ℕ) → 0 < n → ((k : ℕ) → k < n → f k ≡ g k) → best pick n f ≡ best pick n g
best-same pick zero f g some same = absurd (omega arith)
best-same pick (suc zero) f g some same = λ t. pick (same 0 (omega arith) t) (same 0 (omega arith) t)
best-same pick (suc (suc n)) f g some same =
    λ t. pick (best-same pick (suc n) f g (omega arith) (λ k lt. same k (omega arith)) t) (same (suc n) (omega arith) t)

module _ (pick : ℕ → ℕ → ℕ) (P : Picks pick) (f : ℕ → ℕ) where
  -- one of the numbers adds nothing
  absorbed : (n i : ℕ) → i < n → pick (best pick n f) (f i) ≡ best pick n f
  absorbed zero i lt = absurd (omega arith)
  absorbed (suc n) i lt = elim (cases_lt i n) [
    | inl before ↦
        P.associative (best pick n f) (f n) (f i) ∙ ap (pick (best pick n f)) (P.commutative (f n) (f i))
        ∙ sym (P.associative (best pick n f) (f i) (f n)) ∙ ap (λ b. pick b (f n)) (absorbed n i before)
    | inr at ↦
        let last : i ≡ n = omega arith in
        ap (λ k. pick (best pick (suc n) f) (f k)) last ∙ P.associative (best pick n f) (f n) (f n) ∙ ap (pick (best pick n f)) (P.idempotent (f n))
  ]

  -- nor do several of them in a row
  absorbed_row : (d n k : ℕ) → d + suc k ≤ n → pick (best pick n f) (best pick (suc k) (λ i. f (d + i))) ≡ best pick n f
  absorbed_row d n zero le = ap (pick (best pick n f)) (P.idempotent (f (d + 0))) ∙ absorbed n (d + 0) (omega arith)
  absorbed_row d n (suc k) le =
      sym (P.associative (best pick n f) (best pick (suc k) (λ i. f (d + i))) (f (d + suc k)))
      ∙ ap (λ b. pick b (f (d + suc k))) (absorbed_row d n k (omega arith)) ∙ absorbed n (d + suc k) (omega arith)

  -- two rows of numbers that overlap or meet are one row
  joined : (d n k : ℕ) → d ≤ n → n ≤ d + suc k → pick (best pick n f) (best pick (suc k) (λ i. f (d + i))) ≡ best pick (suc (d + k)) f
  joined d n zero le reached = elim (cases_lt d n) [
    | inl within ↦
        let all : n ≡ suc (d + 0) = omega arith in
        absorbed_row d n 0 (omega arith) ∙ ap (λ m. best pick m f) all
    | inr past ↦
        let all : n ≡ d + 0 = omega arith in
        ap (pick (best pick n f)) (P.idempotent (f (d + 0))) ∙ ap (λ m. pick (best pick m f) (f (d + 0))) all
  ]
  joined d n (suc k) le reached = elim (cases_lt (d + suc k) n) [
    | inl within ↦
        let all : n ≡ suc (d + suc k) = omega arith in
        absorbed_row d n (suc k) (omega arith) ∙ ap (λ m. best pick m f) all
    | inr past ↦
        let next : suc (d + k) ≡ d + suc k = omega arith in
        sym (P.associative (best pick n f) (best pick (suc k) (λ i. f (d + i))) (f (d + suc k)))
        ∙ ap (λ b. pick b (f (d + suc k))) (joined d n k le (omega arith)) ∙ ap (λ m. pick (best pick m f) (f (d + suc k))) next
  ]

  pub best-join : (d n : ℕ) → 0 < n → d ≤ n → pick (best pick n f) (best pick n (λ i. f (d + i))) ≡ best pick (d + n) f
  best-join d zero some le = absurd (omega arith)
  best-join d (suc n) some le =
      let all : suc (d + n) ≡ d + suc n = omega arith in
      joined d (suc n) n le (omega arith) ∙ ap (λ m. best pick m f) all

-- ---- the largest and the smallest are bounds, and among the numbers

pub below_largest : (n i : ℕ) (f : ℕ → ℕ) → i < n → f i ≤ best max n f
below_largest zero i f lt = absurd (omega arith)
below_largest (suc n) i f lt = elim (cases_lt i n) [
  | inl before ↦ omega (arith, below_largest n i f before)
  | inr at ↦ let last : f i ≡ f n = ap f (omega arith) in omega arith
]

pub above_smallest : (n i : ℕ) (f : ℕ → ℕ) → i < n → best min n f ≤ f i
above_smallest zero i f lt = absurd (omega arith)
above_smallest (suc n) i f lt = elim (cases_lt i n) [
  | inl before ↦ omega (arith, above_smallest n i f before)
  | inr at ↦ let last : f i ≡ f n = ap f (omega arith) in omega arith
]

-- what is above all numbers is above the largest, and what is below all below the smallest
pub largest_below : (n b : ℕ) (f : ℕ → ℕ) → 0 < n → ((i : ℕ) → i < n → f i ≤ b) → best max n f ≤ b
largest_below zero b f some all = absurd (omega arith)
largest_below (suc zero) b f some all = omega (arith, all 0 (omega arith))
largest_below (suc (suc n)) b f some all =
    omega (arith, largest_below (suc n) b f (omega arith) (λ i lt. all i (omega arith)), all (suc n) (omega arith))

pub smallest_above : (n b : ℕ) (f : ℕ → ℕ) → 0 < n → ((i : ℕ) → i < n → b ≤ f i) → b ≤ best min n f
smallest_above zero b f some all = absurd (omega arith)
smallest_above (suc zero) b f some all = omega (arith, all 0 (omega arith))
smallest_above (suc (suc n)) b f some all =
    omega (arith, smallest_above (suc n) b f (omega arith) (λ i lt. all i (omega arith)), all (suc n) (omega arith))
