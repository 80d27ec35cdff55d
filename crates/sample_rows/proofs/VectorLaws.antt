-- Two vectors of pixels, side by side.
use Rattle.std.proofs.Common.{◌≡◌, ℕ, ◌+◌, ◌-◌, ◌*◌, ◌<◌, cond, ltb, sym, ap, ◌∙◌, inl, inr, arith}
use Rattle.std.proofs.lemmas.Bool.{cases_lt, lt-ltb, le-ltb}
use Rattle.simd_samples.specs.Lanes.{HoldTwo}

-- the samples of two vectors
abbrev pub joined : (ℕ → ℕ) → (ℕ → ℕ) → ℕ → ℕ
joined lanes second j = cond (ltb j 16) (lanes j) (second (j - 16))

pub joined-two : (lanes second : ℕ → ℕ) → HoldTwo lanes second (joined lanes second)
joined-two lanes second = (
  λ j lt. sym (ap (λ t. cond t (lanes j) (second (j - 16))) (lt-ltb j 16 lt)),
  λ j lt. sym (ap (λ t. cond t (lanes (16 + j)) (second (16 + j - 16))) (le-ltb (16 + j) 16 (omega arith)) ∙ ap second (omega arith)),
)

-- Two vectors of pixels, of which each became a value of itself, and the row that they were read from and that to which they were written.
pub written_two : (channels pixels : ℕ) → pixels * channels ≡ 16 → ((k i : ℕ) → k < pixels → i < channels → k * channels + i < 16)
    → (value : (ℕ → ℕ) → ℕ → ℕ) → ((p q : ℕ → ℕ) → ((j : ℕ) → j < channels → p j ≡ q j) → (i : ℕ) → i < channels → value p i ≡ value q i)
    → (read lanes second changed next written : ℕ → ℕ) → HoldTwo lanes second read → ((s : ℕ → ℕ) → HoldTwo changed next s → (j : ℕ) → j < 32 → written j ≡ s j)
    → ((k i : ℕ) → k < pixels → i < channels → changed (k * channels + i) ≡ value (λ j. lanes (k * channels + j)) i)
    → ((k i : ℕ) → k < pixels → i < channels → next (k * channels + i) ≡ value (λ j. second (k * channels + j)) i)
    → (k i : ℕ) → k < 2 * pixels → i < channels → written (k * channels + i) ≡ value (λ j. read (k * channels + j)) i
written_two channels pixels sixteen index value same read lanes second changed next written loaded stored of_first of_second k i lt within =
    let made : (j : ℕ) → j < 32 → written j ≡ joined changed next j = stored (joined changed next) (joined-two changed next) in
    elim (cases_lt k pixels) [
      | inl few ↦
          let near = index k i few within in
          made (k * channels + i) (omega arith) ∙ sym ((joined-two changed next).0 (k * channels + i) near) ∙ of_first k i few within
          ∙ same (λ j. lanes (k * channels + j)) (λ j. read (k * channels + j)) (λ j inside. loaded.0 (k * channels + j) (index k j few inside)) i within
      | inr many ↦
          let n = k - pixels in
          let few : n < pixels = omega arith in
          let near = index n i few within in
          let whole : k ≡ pixels + n = omega arith in
          let after : (j : ℕ) → k * channels + j ≡ 16 + (n * channels + j) = λ j. omega (arith, ap (λ m. m * channels) whole) in
          made (k * channels + i) (omega (arith, after i)) ∙ ap (joined changed next) (after i) ∙ sym ((joined-two changed next).1 (n * channels + i) near) ∙ of_second n i few within
          ∙ same (λ j. second (n * channels + j)) (λ j. read (k * channels + j))
          (λ j inside. loaded.1 (n * channels + j) (index n j few inside) ∙ ap read (sym (after j))) i within
    ]
