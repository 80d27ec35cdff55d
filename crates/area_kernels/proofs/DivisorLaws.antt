-- Division by a multiplication with the reciprocal.
use Rattle.std.proofs.Common.{◌≡◌, ℕ, ◌+◌, ◌-◌, ◌*◌, ◌/◌, ◌%◌, ◌^◌, ◌<◌, ◌≤◌, List, sym, ap, ◌∙◌, subst, inl, inr, arith}
use Rattle.std.proofs.Math.Nat.{div-div-eq-div-mul, mul-le-mul, mul-le-mul_left, mul-le-mul_right}
use Rattle.std.proofs.lemmas.Nat.{div-add-mod', div-mul-add, div_below, le-div, mod_below}
use Rattle.std.proofs.lemmas.Bool.{cases_lt}
use Rattle.pixel_formats.specs.Sample.{sample_at}

-- where the reciprocal is too large by less than it makes up for
exact : (q t n factor excess power : ℕ) → t < n → factor * n ≡ power + excess → (q + 1) * excess < factor
    → ((q * n + t) * factor) / power ≡ q
exact q t n factor excess power rest whole small =
    let whole_q : q * (factor * n) ≡ q * (power + excess) = ap (λ m. q * m) whole in
    let next : t + 1 ≤ n = omega arith in
    let rest_f : (t + 1) * factor ≤ n * factor = mul-le-mul_right factor next in
    let split : (q * n + t) * factor ≡ q * power + (q * excess + t * factor) = omega (arith, whole_q) in
    ap (λ m. m / power) split ∙ div-mul-add q power (q * excess + t * factor) (omega (arith, rest_f, whole, small))

-- means below a bound
module _ (bound n factor power : ℕ) (some : 0 < n) (large : bound * (n * n) ≤ power) (reciprocal : factor ≡ power / n + 1) where
  large_factor : bound * n < factor
  large_factor =
      let same : bound * n * n ≡ bound * (n * n) = omega arith in
      omega (arith, le-div (bound * n) power n some (omega (arith, large, same)))

  -- by how much the reciprocal is too large
  abbrev excess : ℕ
  excess = n - power % n

  whole : factor * n ≡ power + excess
  whole =
      let parts = div-add-mod' power n in
      let rest = mod_below power n some in
      omega (arith, parts, rest, ap (λ m. m * n) reciprocal)

  quotient : (v : ℕ) → v < bound * n → (v * factor) / power ≡ v / n
  quotient v small =
      let parts : v / n * n + v % n ≡ v = div-add-mod' v n in
      let few_excess : excess ≤ n = omega arith in
      let near : (v / n + 1) * excess ≤ (v / n + 1) * n = mul-le-mul_left (v / n + 1) few_excess in
      let few : v / n < bound = div_below v n bound some small in
      let most : (v / n + 1) * n ≤ bound * n = mul-le-mul_right n (omega arith) in
      ap (λ m. (m * factor) / power) (sym parts)
      ∙ exact (v / n) (v % n) n factor excess power (mod_below v n some) whole (omega (arith, near, most, large_factor))

  pub mean-exact : (max_sample sum : ℕ) → max_sample < bound → sum ≤ n * max_sample → (sum + n / 2) * factor / power ≡ (sum + n / 2) / n
  mean-exact max_sample sum shallow small =
      let most : n * (max_sample + 1) ≤ n * bound = mul-le-mul_left n (omega arith) in
      quotient (sum + n / 2) (omega (arith, small, most))

pub mean-below : (n max_sample sum : ℕ) → 0 < n → sum ≤ n * max_sample → (sum + n / 2) / n ≤ max_sample
mean-below n max_sample sum some small =
    let below : sum + n / 2 < (max_sample + 1) * n = omega (arith, small) in
    omega (arith, div_below (sum + n / 2) n (max_sample + 1) some below)

-- ---- in parts of 2^31 and of a power of two

-- of sums of up to 16,641 samples of one byte or two
module _ (n max_sample sum : ℕ) (shallow : max_sample ≤ 65535) (small : sum ≤ n * max_sample) where
  pub sum-fits : n ≤ 16641 → sum + n / 2 < 2147483648
  sum-fits few = omega (arith, small, mul-le-mul_left n shallow)

  pub mean-by_shift : (factor power shift : ℕ) → 0 < n → 65536 * (n * n) ≤ power → factor ≡ power / n + 1 → power ≡ 2147483648 * 2 ^ shift
      → (sum + n / 2) * factor / 2147483648 / 2 ^ shift ≡ (sum + n / 2) / n
  mean-by_shift factor power shift some large reciprocal is =
      div-div-eq-div-mul ((sum + n / 2) * factor) 2147483648 (2 ^ shift) ∙ ap (λ p. (sum + n / 2) * factor / p) (sym is)
      ∙ mean-exact 65536 n factor power some large reciprocal max_sample sum (omega arith) small

-- ---- in parts of 2^63

-- of sums of up to 16,641 samples of four bytes
module _ (n sum : ℕ) (few : n ≤ 16641) (small : sum ≤ n * 4294967295) where
  pub long_sum-fits : sum + n / 2 < 140737488355328
  long_sum-fits = omega arith

  pub mean-by_half : (factor : ℕ) → 0 < n → factor ≡ 9223372036854775808 / n + 1
      → 2 * (sum + n / 2) * factor / 18446744073709551616 ≡ (sum + n / 2) / n
  mean-by_half factor some reciprocal =
      let large : n * n ≤ 16641 * 16641 = mul-le-mul few few in
      let half : 2 * (sum + n / 2) * factor / 18446744073709551616 ≡ (sum + n / 2) * factor / 9223372036854775808 = omega arith in
      half ∙ mean-exact 4294967296 n factor 9223372036854775808 some (omega (arith, large)) reciprocal 4294967295 sum (omega arith) small

-- ---- means that are written sixteen at a time

pub means_more : (d at n : ℕ) (old new : List ℕ) (mean : ℕ → ℕ) → n ≡ at + 16 → ((i : ℕ) → i < at → sample_at d old i ≡ mean i)
    → ((j : ℕ) → j < 16 → sample_at d new (at + j) ≡ mean (at + j)) → ((i : ℕ) → i < at → sample_at d new i ≡ sample_at d old i)
    → (i : ℕ) → i < n → sample_at d new i ≡ mean i
means_more d at n old new mean is before here kept i lt = elim (cases_lt i at) [
  | inl earlier ↦ kept i earlier ∙ before i earlier
  | inr later ↦
      let there : at + (i - at) ≡ i = omega arith in
      subst (λ k. sample_at d new k ≡ mean k) there (here (i - at) (omega arith))
]
