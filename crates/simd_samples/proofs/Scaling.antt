-- Vectors that are multiplied by one number, in lanes below w.
use Rattle.std.proofs.Common.{◌≡◌, ℕ, ◌+◌, ◌*◌, ◌/◌, ◌%◌, ◌^◌, ◌<◌, ◌≤◌, List, length, get_or, map, replicate, min, refl, ap, ◌∙◌, inl, inr, arith}
use Rattle.std.proofs.Math.Nat.{mod-eq_of_lt, div-le_self, div-lt_iff_lt-mul, mul-le-mul}
use Rattle.std.proofs.lemmas.Bool.{cases_lt}
use Rattle.std.proofs.lemmas.List.{get_or_past}
use lib.Lanes.{zip2}
use Rattle.simd_samples.specs.Lanes.{AreLanes, Hold}
use Rattle.simd_samples.proofs.Arithmetic.{Makes-cast, below_le, over, plus, same, shifted, splat_at, times}
use Rattle.simd_samples.proofs.Pointwise.{Makes, Makes-from_four, Makes-from_lanes, Makes-from_two}
use Rattle.simd_samples.proofs.Saturation.{Makes-minimum, highest_of_longs, where_below}

-- the products and sums of a vector
abbrev pub multiplied : ℕ → List ℕ → List ℕ → List ℕ → List ℕ
multiplied w xs ys zs = zip2 (plus w) (zip2 (times w) xs ys) zs

one_multiplied : (w a b c : ℕ) → a * b + c < w → plus w (times w a b) c ≡ a * b + c
one_multiplied w a b c room = ap (λ n. (n + c) % w) (mod-eq_of_lt (omega (arith, room))) ∙ mod-eq_of_lt room

-- a lane of the splats
pub three_splats : (f : ℕ → ℕ → ℕ → ℕ) (j b c d : ℕ) → j < 16 → f (get_or (replicate 16 b) j 0) (get_or (replicate 16 c) j 0) (get_or (replicate 16 d) j 0) ≡ f b c d
three_splats f j b c d lt = λ p. f (splat_at b j lt p) (splat_at c j lt p) (splat_at d j lt p)

pub Makes-scaled : (w bound shift : ℕ) (xs : List ℕ) (factor offset : ℕ) → 0 < bound → 0 < 2 ^ shift → bound * 2 ^ shift ≤ w → length xs ≡ 16
    → ((j : ℕ) → j < 16 → get_or xs j 0 * factor + offset < bound * 2 ^ shift)
    → Makes bound (zip2 shifted (multiplied w (map same xs) (replicate 16 factor) (replicate 16 offset)) (replicate 16 shift)) (λ j. (get_or xs j 0 * factor + offset) / 2 ^ shift)
Makes-scaled w bound shift xs factor offset some some_part wide long small =
    Makes-from_four (λ xs ys zs ws. zip2 shifted (multiplied w (map same xs) ys zs) ws) (λ a b c d. shifted (plus w (times w a b) c) d) (λ a b c d xs ys zs ws. refl) refl bound _ some
    xs (replicate 16 factor) (replicate 16 offset) (replicate 16 shift) long refl refl refl
    (λ j lt. (
      three_splats (λ b c d. shifted (plus w (times w (get_or xs j 0) b) c) d) j factor offset shift lt
          ∙ ap (λ n. n / 2 ^ shift) (one_multiplied w (get_or xs j 0) factor offset (omega (arith, small j lt))),
      (div-lt_iff_lt-mul some_part).1 (small j lt),
    ))

-- ---- samples of four bytes, scaled in two halves of 32 bits of the factor and of the offset

product_few : (m a number offset : ℕ) → m ≤ 4294967295 → a ≤ m → number < 4294967296 → offset < 4294967296 → a * number + offset < 18446744073709551616
product_few m a number offset few le n o = omega (arith, mul-le-mul {n₁ = a} {m₁ = number} {n₂ = 4294967295} {m₂ = 4294967295} (omega arith) (omega arith))

Makes-half : (xs : List ℕ) (factor offset : ℕ) → AreLanes 4294967296 xs → factor < 4294967296 → offset < 4294967296
    → Makes 18446744073709551616 (multiplied 18446744073709551616 (map same xs) (replicate 16 factor) (replicate 16 offset)) (λ j. get_or xs j 0 * factor + offset)
Makes-half xs factor offset p few few_offset =
    let w : ℕ = 18446744073709551616 in
    Makes-from_four (λ xs ys zs ws. multiplied w (map same xs) ys zs) (λ a b c d. plus w (times w a b) c) (λ a b c d xs ys zs ws. refl) refl w _ (omega arith)
    xs (replicate 16 factor) (replicate 16 offset) xs p.long refl refl p.long
    (λ j lt.
    let small = product_few 4294967295 (get_or xs j 0) factor offset (omega arith) (below_le 4294967295 xs p j) few few_offset in (
      three_splats (λ b c d. plus w (times w (get_or xs j 0) b) c) j factor offset 0 lt ∙ one_multiplied w (get_or xs j 0) factor offset small,
      small,
    ))

-- both halves together
joined_halves : (c factor offset : ℕ) → (c * (factor / 4294967296) + offset / 4294967296 + (c * (factor % 4294967296) + offset % 4294967296) / 4294967296) / 65536 ≡ (c * factor + offset) / 281474976710656
joined_halves c factor offset =
    let parts : factor ≡ factor / 4294967296 * 4294967296 + factor % 4294967296 = omega arith in
    let product : c * factor ≡ c * (factor / 4294967296 * 4294967296 + factor % 4294967296) = ap (λ f. c * f) parts in
    omega (arith, product)

abbrev pub halves_joined : List ℕ → List ℕ → List ℕ → List ℕ → List ℕ
halves_joined xs ys zs ws = zip2 shifted (zip2 (plus 18446744073709551616) xs (zip2 shifted ys zs)) ws

module _ (xs : List ℕ) (factor offset : ℕ) (p : AreLanes 4294967296 xs) (few : factor < 18446744073709551616) (few_offset : offset < 18446744073709551616)
    (small : (j : ℕ) → j < 16 → get_or xs j 0 * factor + offset < 1208925819614629174706176) where
  abbrev low_half : List ℕ
  low_half = multiplied 18446744073709551616 (map same xs) (replicate 16 (factor % 4294967296)) (replicate 16 (offset % 4294967296))

  abbrev high_half : List ℕ
  high_half = multiplied 18446744073709551616 (map same xs) (replicate 16 (factor / 4294967296)) (replicate 16 (offset / 4294967296))

  pub Makes-scaled_by_halves : Makes 4294967296 (halves_joined high_half low_half (replicate 16 32) (replicate 16 16)) (λ j. (get_or xs j 0 * factor + offset) / 281474976710656)
  Makes-scaled_by_halves =
      let w : ℕ = 18446744073709551616 in
      let low = Makes-half xs (factor % 4294967296) (offset % 4294967296) p (omega arith) (omega arith) in
      let high = Makes-half xs (factor / 4294967296) (offset / 4294967296) p (omega (arith, few)) (omega (arith, few_offset)) in
      Makes-from_four halves_joined (λ a b c d. shifted (plus w a (shifted b c)) d) (λ a b c d xs ys zs ws. refl) refl 4294967296 _ (omega arith)
      high_half low_half (replicate 16 32) (replicate 16 16) high.0.long low.0.long refl refl
      (λ j lt.
      let x = get_or xs j 0 in
      let a = x * (factor / 4294967296) + offset / 4294967296 in
      let b = x * (factor % 4294967296) + offset % 4294967296 in
      let whole : (a + b / 4294967296) / 65536 ≡ (x * factor + offset) / 281474976710656 = joined_halves x factor offset in
      let result : (x * factor + offset) / 281474976710656 < 4294967296 = omega (arith, small j lt) in
      let sum : plus w a (b / 4294967296) ≡ a + b / 4294967296 = mod-eq_of_lt (omega (arith, whole, result)) in (
        (λ i. shifted (plus w (high.1 j lt i) (shifted (low.1 j lt i) (splat_at 32 j lt i))) (splat_at 16 j lt i)) ∙ ap (λ n. n / 65536) sum ∙ whole,
        result,
      ))

-- ---- numbers of 32 bits with an offset, scaled in lanes of 64 bits, by parts of 2^31

-- the upper halves of the products of twice the numbers
abbrev pub upper_halves : List ℕ → List ℕ → List ℕ → List ℕ → List ℕ
upper_halves xs ys zs ws =
    zip2 shifted (zip2 (times 18446744073709551616) (map same (zip2 (plus 4294967296) (zip2 (plus 4294967296) xs ys) (zip2 (plus 4294967296) xs ys))) zs) ws

abbrev pub upper_half : ℕ → ℕ → ℕ → ℕ → ℕ
upper_half a b c d = shifted (times 18446744073709551616 (plus 4294967296 (plus 4294967296 a b) (plus 4294967296 a b)) c) d

module _ (a offset factor : ℕ) (small : a + offset < 2147483648) (few : factor < 4294967296) where
  product : (a + offset) * factor ≤ 2147483647 * 4294967295
  product = mul-le-mul {n₁ = a + offset} {m₁ = factor} {n₂ = 2147483647} {m₂ = 4294967295} (omega arith) (omega arith)

  halved : (a + offset + (a + offset)) * factor / 4294967296 ≡ (a + offset) * factor / 2147483648
  halved = omega arith

  one_half : upper_half a offset factor 32 ≡ (a + offset) * factor / 2147483648
  one_half =
      let sum : (a + offset) % 4294967296 ≡ a + offset = mod-eq_of_lt (omega arith) in
      let twice : (a + offset + (a + offset)) % 4294967296 ≡ a + offset + (a + offset) = mod-eq_of_lt (omega arith) in
      let whole : (a + offset + (a + offset)) * factor % 18446744073709551616 ≡ (a + offset + (a + offset)) * factor = mod-eq_of_lt (omega (arith, product)) in
      (λ t. (sum t + sum t) % 4294967296 * factor % 18446744073709551616 / 4294967296)
      ∙ ap (λ n. n * factor % 18446744073709551616 / 4294967296) twice ∙ ap (λ n. n / 4294967296) whole ∙ halved

  half_below : (a + offset) * factor / 2147483648 < 4294967296
  half_below = omega (arith, product)

abbrev pub scaled_longs : List ℕ → ℕ → ℕ → List ℕ
scaled_longs xs offset factor = upper_halves xs (replicate 16 offset) (replicate 16 factor) (replicate 16 32)

module _ (xs numbers : List ℕ) (offset factor : ℕ) (same_numbers : xs ≡ numbers) (long : length xs ≡ 16) (few : factor < 4294967296)
    (small : (j : ℕ) → j < 16 → get_or numbers j 0 + offset < 2147483648) where
  small_lane : (j : ℕ) → j < 16 → get_or xs j 0 + offset < 2147483648
  small_lane j lt = omega (arith, small j lt, ap (λ l. get_or l j 0) same_numbers)

  pub Makes-scaled_longs : Makes 4294967296 (scaled_longs xs offset factor) (λ j. (get_or xs j 0 + offset) * factor / 2147483648)
  Makes-scaled_longs =
      Makes-from_four upper_halves upper_half (λ a b c d xs ys zs ws. refl) refl 4294967296 _ (omega arith)
      xs (replicate 16 offset) (replicate 16 factor) (replicate 16 32) long refl refl refl
      (λ j lt. (
        three_splats (upper_half (get_or xs j 0)) j offset factor 32 lt ∙ one_half (get_or xs j 0) offset factor (small_lane j lt) few,
        half_below (get_or xs j 0) offset factor (small_lane j lt) few,
      ))

  pub Makes-shifted_longs : (shift : ℕ) → Makes 4294967296 (zip2 shifted (map same (scaled_longs xs offset factor)) (replicate 16 shift)) (λ j. (get_or numbers j 0 + offset) * factor / 2147483648 / 2 ^ shift)
  Makes-shifted_longs shift =
      let v = scaled_longs xs offset factor in
      Makes-from_two (λ xs ys. zip2 shifted (map same xs) ys) shifted (λ a b xs ys. refl) refl 4294967296 _ (omega arith)
      v (replicate 16 shift) Makes-scaled_longs.0.long refl
      (λ j lt.
      let is : get_or v j 0 / 2 ^ get_or (replicate 16 shift) j 0 ≡ (get_or numbers j 0 + offset) * factor / 2147483648 / 2 ^ shift =
      ap (λ k. get_or v j 0 / 2 ^ k) (splat_at shift j lt) ∙ ap (λ n. n / 2 ^ shift) (Makes-scaled_longs.1 j lt)
      ∙ ap (λ l. (get_or l j 0 + offset) * factor / 2147483648 / 2 ^ shift) same_numbers in
      let most : (get_or numbers j 0 + offset) * factor / 2147483648 / 2 ^ shift ≤ (get_or numbers j 0 + offset) * factor / 2147483648 =
      div-le_self ((get_or numbers j 0 + offset) * factor / 2147483648) (2 ^ shift) in
      (is, omega (arith, most, half_below (get_or numbers j 0) offset factor (small j lt) few)))

-- ---- a division in lanes of 64 bits, of samples that are at most m

abbrev pub quotients : List ℕ → ℕ → ℕ → ℕ → List ℕ
quotients xs number offset divisor =
    zip2 over (multiplied 18446744073709551616 xs (replicate 16 number) (replicate 16 offset)) (replicate 16 divisor)

Makes-quotients : (m : ℕ) (xs : List ℕ) (number offset divisor : ℕ) → m ≤ 4294967295 → AreLanes (m + 1) xs → number < 4294967296 → offset < 4294967296
    → Makes 18446744073709551616 (quotients xs number offset divisor) (λ j. (get_or xs j 0 * number + offset) / divisor)
Makes-quotients m xs number offset divisor few p n o =
    let w : ℕ = 18446744073709551616 in
    Makes-from_four (λ xs ys zs ws. zip2 over (multiplied w xs ys zs) ws) (λ a b c d. over (plus w (times w a b) c) d) (λ a b c d xs ys zs ws. refl) refl w _ (omega arith)
    xs (replicate 16 number) (replicate 16 offset) (replicate 16 divisor) p.long refl refl refl
    (λ j lt.
    let small = product_few m (get_or xs j 0) number offset few (below_le m xs p j) n o in (
      three_splats (λ b c d. over (plus w (times w (get_or xs j 0) b) c) d) j number offset divisor lt
          ∙ ap (λ k. k / divisor) (one_multiplied w (get_or xs j 0) number offset small),
      omega (arith, small, div-le_self (get_or xs j 0 * number + offset) divisor),
    ))

splat_lanes : (bound n : ℕ) → n < bound → AreLanes bound (replicate 16 n)
splat_lanes bound n few = record { long = refl; below = λ j. elim (cases_lt j 16) [ inl lt ↦ omega (arith, splat_at n j lt) | inr past ↦ omega (arith, get_or_past (replicate 16 n) j 0 past) ] }

-- the quotients, at most m
abbrev pub limited : List ℕ → List ℕ → List ℕ
limited xs ys = where_below 63 18446744073709551616 xs ys xs ys

pub Makes-divided : (m : ℕ) (xs : List ℕ) (number offset divisor : ℕ) → m ≤ 4294967295 → AreLanes (m + 1) xs → number < 4294967296 → offset < 4294967296
    → Makes (m + 1) (limited (quotients xs number offset divisor) (replicate 16 m)) (λ j. min m ((get_or xs j 0 * number + offset) / divisor))
Makes-divided m xs number offset divisor few p n o =
    let w : ℕ = 18446744073709551616 in
    let made = Makes-quotients m xs number offset divisor few p n o in
    let v = quotients xs number offset divisor in
    let minimum = Makes-minimum 63 w highest_of_longs v (replicate 16 m) made.0 (splat_lanes w m (omega arith)) in
    Makes-from_lanes (m + 1) (limited v (replicate 16 m)) _ (omega arith) minimum.0.long
    (λ j lt. minimum.1 j lt ∙ ap (min (get_or v j 0)) (splat_at m j lt) ∙ ap (λ k. min k m) (made.1 j lt) ∙ omega arith) (λ j lt. omega arith)

-- the quotients of samples that are cast, when they are cast back
pub Makes-cast_quotients : (m : ℕ) (xs v : List ℕ) (number offset divisor : ℕ) → AreLanes (m + 1) xs → AreLanes (m + 1) v
    → Hold (λ j. get_or v j 0) (λ j. min m ((get_or (map same xs) j 0 * number + offset) / divisor))
    → Makes (m + 1) (map same v) (λ j. min m ((get_or xs j 0 * number + offset) / divisor))
Makes-cast_quotients m xs v number offset divisor p q holds =
    let cast_up = Makes-cast (m + 1) xs (λ j. get_or xs j 0) (omega arith) (p, λ j lt. refl) in
    Makes-cast (m + 1) v _ (omega arith) (q, λ j lt. holds j lt ∙ ap (λ a. min m ((a * number + offset) / divisor)) (cast_up.1 j lt))
