-- Samples that are written sixteen at a time.
use Rattle.std.proofs.Math.Nat.{mul-le-mul_left, mul_assoc, mul_comm}
use Rattle.std.proofs.Common.{◌≡◌, ℕ, ◌+◌, ◌*◌, ◌-◌, ◌<◌, ◌≤◌, List, length, get_or, ap, ◌∙◌, inl, inr, subst, arith}
use Rattle.std.specs.Simd.Lanes.{put_chunk}
use Rattle.std.proofs.lemmas.Bool.{cases_lt}
use Rattle.std.proofs.lemmas.Simd.{get_or-put_chunk_at}
use Rattle.simd_samples.specs.Lanes.{Hold}
use Rattle.pixel_formats.specs.Sample.{sample_at}

-- sixteen lanes stored from a position on, seen as the numbers that they are
pub stored-here : (from : ℕ) (dst lanes numbers : List ℕ) → length lanes ≡ 16 → lanes ≡ numbers → from + 16 ≤ length dst
    → Hold (λ j. get_or (put_chunk from dst lanes) (from + j) 0) (λ j. get_or numbers j 0)
stored-here from dst lanes numbers long is room = λ j lt.
    get_or-put_chunk_at from dst lanes j 0 (omega (arith, long)) (omega (arith, long)) ∙ ap (λ l. get_or l j 0) is

-- sixteen more of the samples s
pub sixteen_more : (d n : ℕ) (old new : List ℕ) (lanes s : ℕ → ℕ) → ((i : ℕ) → i < n → sample_at d old i ≡ s i)
    → ((i : ℕ) → i < n → sample_at d new i ≡ sample_at d old i) → Hold (λ j. sample_at d new (n + j)) lanes → Hold lanes (λ j. s (n + j))
    → (i : ℕ) → i < n + 16 → sample_at d new i ≡ s i
sixteen_more d n old new lanes s first kept made holds i far =
    elim (cases_lt i n) [
      | inl lt ↦ kept i lt ∙ first i lt
      | inr past ↦
          let Q : ℕ → Type 0 = λ k. sample_at d new k ≡ s k in
          let at : n + (i - n) ≡ i = omega arith in
          subst Q at (made (i - n) (omega arith) ∙ holds (i - n) (omega arith))
    ]

-- sixteen samples, of three vectors that are there
pub vectors_fit : (d bytes from at n : ℕ) → bytes ≡ 16 * d → at ≤ 32 → (from + 3) * bytes ≤ n → d * (16 * from + at + 16) ≤ n
vectors_fit d bytes from at n sixteen few there =
    let whole : (from + 3) * bytes ≡ d * (16 * from + 48) =
    ap (λ b. (from + 3) * b) sixteen
    ∙ mul_comm (from + 3) (16 * d)
    ∙ ap (λ k. k * (from + 3)) (mul_comm 16 d)
    ∙ mul_assoc d 16 (from + 3)
    ∙ ap (λ k. d * k) (omega arith) in
    let part : d * (16 * from + at + 16) ≤ d * (16 * from + 48) = mul-le-mul_left d (omega (arith, few)) in
    omega (arith, whole, part, there)
