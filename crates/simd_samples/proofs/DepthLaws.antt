-- Vectors of samples at another depth.
use Rattle.std.proofs.Common.{◌≡◌, ℕ, ◌+◌, ◌-◌, ◌*◌, ◌/◌, ◌<◌, ◌≤◌, List, ◌++◌, eqb, length, get_or, map, replicate, refl, ap, ◌∙◌, arith, eqb→eq}
use Rattle.std.proofs.Math.Nat.{mod-eq_of_lt, mul-le-mul}
use Rattle.std.proofs.lemmas.List.{get_or-map, length-map}
use Rattle.std.proofs.lemmas.Simd.{Each1-from_get_or, get_or_wider}
use lib.Lanes.{zip2, pick_l, number_l, digits_l, Each1}
use Rattle.simd_samples.specs.declared.positions.TheConstants.{DOUBLED}
use Rattle.pixel_formats.specs.Sample.{scaled_by}
use Rattle.simd_samples.specs.Lanes.{AreLanes, Hold}
use Rattle.simd_samples.proofs.Arithmetic.{below_le, plus, same, shifted, splat_at, times}
use Rattle.simd_samples.proofs.Moves.{number_of_two}
use Rattle.simd_samples.proofs.Pointwise.{Makes, Makes-from_four, Makes-from_lanes, Makes-from_two}
use Rattle.simd_samples.proofs.Saturation.{less}
use Rattle.simd_samples.proofs.Shuffling.{in_first, joined_below, under}

-- ---- bytes, each twice, are 257 times themselves

abbrev pub doubled : List ℕ → List ℕ
doubled v = pick_l 0 (v ++ v) DOUBLED

module _ (v : List ℕ) (p : AreLanes 256 v) where
  long_doubled : length (doubled v) ≡ 32
  long_doubled = length-map DOUBLED (λ k. get_or (v ++ v) k 0)

  doubled_at : (k j : ℕ) → k < 32 → k / 2 ≡ j → get_or (doubled v) k 0 ≡ get_or v j 0
  doubled_at k j lt half =
      get_or-map (λ n. get_or (v ++ v) n 0) DOUBLED k 0 0 lt
      ∙ ap (λ n. get_or (v ++ v) n 0) (eqb→eq _ _ (under 32 (λ n. eqb (get_or DOUBLED n 0) (n / 2)) tt k lt) ∙ half)
      ∙ in_first 256 (omega arith) v v p p j (omega arith)

  doubled_bytes : Each1 (λ x. x < 256) (doubled v)
  doubled_bytes =
      Each1-from_get_or (λ x. x < 256) (doubled v) 0
      (λ i lt. omega (arith, get_or-map (λ n. get_or (v ++ v) n 0) DOUBLED i 0 0 (omega (arith, long_doubled)), joined_below 256 (omega arith) v v p p (get_or DOUBLED i 0)))

  pub Makes-widened : Makes 65536 (digits_l 65536 16 (number_l 256 (doubled v))) (λ j. get_or v j 0 * 257)
  Makes-widened =
      Makes-from_lanes 65536 (digits_l 65536 16 (number_l 256 (doubled v))) (λ j. get_or v j 0 * 257) (omega arith) refl
      (λ j lt.
      get_or_wider 256 2 65536 16 (doubled v) j refl doubled_bytes lt ∙ number_of_two (doubled v) (2 * j) (omega (arith, long_doubled))
      ∙ omega (arith, doubled_at (2 * j) j (omega arith) (omega arith), doubled_at (2 * j + 1) j (omega arith) (omega arith)))
      (λ j lt. omega (arith, p.below j))

-- ---- samples that are multiplied by one number

pub Makes-multiplied : (bound factor : ℕ) (xs : List ℕ) → 0 < bound → bound * factor < 4294967296 + factor → AreLanes bound xs
    → Makes 4294967296 (zip2 (times 4294967296) (map same xs) (replicate 16 factor)) (λ j. get_or xs j 0 * factor)
Makes-multiplied bound factor xs some few p =
    Makes-from_two (λ xs ys. zip2 (times 4294967296) (map same xs) ys) (times 4294967296) (λ a b xs ys. refl) refl 4294967296 _ (omega arith)
    xs (replicate 16 factor) p.long refl
    (λ j lt.
    let most : (get_or xs j 0 + 1) * factor ≤ bound * factor = mul-le-mul (omega (arith, p.below j)) (omega arith) in
    let small : get_or xs j 0 * factor < 4294967296 = omega (arith, most, few) in
    (ap (λ b. times 4294967296 (get_or xs j 0) b) (splat_at factor j lt) ∙ mod-eq_of_lt small, small))

-- ---- samples below w at half their bytes: words are divided by 257 and rounded, and longs by 65,537

abbrev pub narrowed : ℕ → List ℕ → List ℕ → List ℕ → List ℕ → List ℕ
narrowed w xs es ks fs =
    zip2 shifted (zip2 (plus w) (zip2 (less w) xs (zip2 shifted xs es)) (zip2 (plus w) ks (zip2 shifted xs fs))) es

abbrev pub one_narrowed : ℕ → ℕ → ℕ → ℕ → ℕ → ℕ
one_narrowed w a e k f = shifted (plus w (less w a (shifted a e)) (plus w k (shifted a f))) e

narrow_word : (a : ℕ) → a < 65536 → one_narrowed 65536 a 8 127 15 ≡ (a * 255 + 32767) / 65535
narrow_word a lt =
    let high : less 65536 a (a / 256) ≡ a - a / 256 = omega arith in
    let half : plus 65536 127 (a / 32768) ≡ 127 + a / 32768 = omega arith in
    let sum : plus 65536 (a - a / 256) (127 + a / 32768) ≡ a - a / 256 + (127 + a / 32768) = omega arith in
    ap (λ n. plus 65536 n (plus 65536 127 (a / 32768)) / 256) high ∙ ap (λ n. plus 65536 (a - a / 256) n / 256) half ∙ ap (λ n. n / 256) sum ∙ omega arith

narrow_long : (a : ℕ) → a < 4294967296 → one_narrowed 4294967296 a 16 32767 31 ≡ (a * 65535 + 2147483647) / 4294967295
narrow_long a lt =
    let high : less 4294967296 a (a / 65536) ≡ a - a / 65536 = omega arith in
    let half : plus 4294967296 32767 (a / 2147483648) ≡ 32767 + a / 2147483648 = omega arith in
    let sum : plus 4294967296 (a - a / 65536) (32767 + a / 2147483648) ≡ a - a / 65536 + (32767 + a / 2147483648) = omega arith in
    ap (λ n. plus 4294967296 n (plus 4294967296 32767 (a / 2147483648)) / 65536) high ∙ ap (λ n. plus 4294967296 (a - a / 65536) n / 65536) half ∙ ap (λ n. n / 65536) sum ∙ omega arith

module _ (w bound e k f : ℕ) (value : ℕ → ℕ) (some : 0 < bound) (narrow : (a : ℕ) → a < w → (one_narrowed w a e k f ≡ value a) × (value a < bound)) where
  Makes-narrowed : (xs : List ℕ) → AreLanes w xs → Makes bound (narrowed w xs (replicate 16 e) (replicate 16 k) (replicate 16 f)) (λ j. value (get_or xs j 0))
  Makes-narrowed xs p =
      Makes-from_four (narrowed w) (one_narrowed w) (λ a b c d xs ys zs ws. refl) refl bound _ some xs (replicate 16 e) (replicate 16 k) (replicate 16 f) p.long refl refl refl
      (λ j lt.
      let of_one = narrow (get_or xs j 0) (p.below j) in
      ((λ i. one_narrowed w (get_or xs j 0) (splat_at e j lt i) (splat_at k j lt i) (splat_at f j lt i)) ∙ of_one.0, of_one.1))

pub Makes-narrowed_words : (xs : List ℕ) → AreLanes 65536 xs → Makes 256 (narrowed 65536 xs (replicate 16 8) (replicate 16 127) (replicate 16 15)) (λ j. (get_or xs j 0 * 255 + 32767) / 65535)
Makes-narrowed_words = Makes-narrowed 65536 256 8 127 15 (λ a. (a * 255 + 32767) / 65535) (omega arith) (λ a lt. (narrow_word a lt, omega arith))

pub Makes-narrowed_longs : (xs : List ℕ) → AreLanes 4294967296 xs → Makes 65536 (narrowed 4294967296 xs (replicate 16 16) (replicate 16 32767) (replicate 16 31)) (λ j. (get_or xs j 0 * 65535 + 2147483647) / 4294967295)
Makes-narrowed_longs = Makes-narrowed 4294967296 65536 16 32767 31 (λ a. (a * 65535 + 2147483647) / 4294967295) (omega arith) (λ a lt. (narrow_long a lt, omega arith))

-- ---- longs as bytes: 255 of 2^32 - 1 parts of each

pub Makes-scaled_to_bytes : (xs weights v : List ℕ) → AreLanes 4294967296 xs → Hold (λ j. get_or weights j 0) (λ j. 255) → length v ≡ 16
    → Hold (λ j. get_or v j 0) (λ j. scaled_by 4294967295 (get_or xs j 0) (get_or weights j 0)) → Makes 256 v (λ j. (get_or xs j 0 * 255 + 2147483647) / 4294967295)
Makes-scaled_to_bytes xs weights v p weighs long holds =
    Makes-from_lanes 256 v _ (omega arith) long
    (λ j lt. holds j lt ∙ ap (scaled_by 4294967295 (get_or xs j 0)) (weighs j lt)) (λ j lt. omega (arith, below_le 4294967295 xs p j))
