-- Products, sums and quotients of vectors that are computed in wider lanes, of numbers below w, and cast back.
use Rattle.std.proofs.Common.{◌≡◌, ℕ, ◌+◌, ◌*◌, ◌/◌, ◌%◌, ◌^◌, ◌<◌, ◌≤◌, List, length, get_or, map, replicate, refl, ap, ◌∙◌, arith, w8, w16, w32, Fits}
use Rattle.std.proofs.Math.Nat.{mod-eq_of_lt, mul-le-mul}
use Rattle.std.proofs.lemmas.Simd.{Each1-all, Each1-from_get_or, Each1-get_or, Each2-splat, get_or-replicate}
use lib.Lanes.{zip2, Each1, Each2}
use Rattle.pixel_formats.specs.Sample.{mean_of_four, mean_of_three, scaled_by}
use Rattle.simd_samples.specs.Lanes.{AreLanes}
use Rattle.simd_samples.proofs.Pointwise.{Makes, Makes-from_four, Makes-from_lanes, Makes-from_two}

-- the operations in one lane; a cast leaves a number as it is
abbrev pub same : ℕ → ℕ
same a = a

abbrev pub plus : ℕ → ℕ → ℕ → ℕ
plus w a b = (a + b) % w

abbrev pub times : ℕ → ℕ → ℕ → ℕ
times w a b = (a * b) % w

abbrev pub over : ℕ → ℕ → ℕ
over a b = a / b

abbrev pub shifted : ℕ → ℕ → ℕ
shifted a b = a / 2 ^ b

-- lanes below one more than m are at most m
pub below_le : (m : ℕ) (v : List ℕ) → AreLanes (m + 1) v → (j : ℕ) → get_or v j 0 ≤ m
below_le m v p j = omega (arith, p.below j)

-- what a division and a narrowing cast ask
pub divides : (v : List ℕ) (n : ℕ) → 0 < n → Each2 (λ (a b : ℕ). 0 < b) v (replicate 16 n)
divides v n some = Each2-splat (λ (a b : ℕ). 0 < b) v 16 n (Each1-all (λ a. 0 < n) (λ a. some) v)

pub fit_bytes : (v : List ℕ) → AreLanes 256 v → Each1 (Fits w8) v
fit_bytes v p = Each1-from_get_or (Fits w8) v 0 (λ i lt. record { fits = p.below i })

pub fit_words : (v : List ℕ) → AreLanes 65536 v → Each1 (Fits w16) v
fit_words v p = Each1-from_get_or (Fits w16) v 0 (λ i lt. record { fits = p.below i })

pub fit_longs : (v : List ℕ) → AreLanes 4294967296 v → Each1 (Fits w32) v
fit_longs v p = Each1-from_get_or (Fits w32) v 0 (λ i lt. record { fits = p.below i })

-- the lanes of a vector are below the bound of their type
AreLanes-fitting : (bound : ℕ) (P : ℕ → Type 0) → 0 < bound → ((a : ℕ) → P a → a < bound) → (v : List ℕ) → length v ≡ 16 → Each1 P v → AreLanes bound v
AreLanes-fitting bound P some small v long fits =
    (Makes-from_lanes bound v (λ j. get_or v j 0) some long (λ j lt. refl) (λ j lt. small _ (Each1-get_or P v j 0 (omega (arith, long, lt)) fits))).0

pub AreLanes-bytes : (v : List ℕ) → length v ≡ 16 → Each1 (Fits w8) v → AreLanes 256 v
AreLanes-bytes = AreLanes-fitting 256 (Fits w8) (omega arith) (λ a h. h.fits)

pub AreLanes-words : (v : List ℕ) → length v ≡ 16 → Each1 (Fits w16) v → AreLanes 65536 v
AreLanes-words = AreLanes-fitting 65536 (Fits w16) (omega arith) (λ a h. h.fits)

pub AreLanes-longs : (v : List ℕ) → length v ≡ 16 → Each1 (Fits w32) v → AreLanes 4294967296 v
AreLanes-longs = AreLanes-fitting 4294967296 (Fits w32) (omega arith) (λ a h. h.fits)

-- ---- scaled samples

abbrev pub scaled_by_sums : ℕ → List ℕ → List ℕ → List ℕ → List ℕ
scaled_by_sums w xs ys zs = zip2 (plus w) (zip2 (times w) (map same xs) (map same ys)) zs

module _ (w m k : ℕ) (room : m * m + k < w) where
  product_below : (a b : ℕ) → a ≤ m → b ≤ m → a * b + k < w
  product_below a b p q = omega (arith, mul-le-mul p q)

  one_sum : (a b : ℕ) → a ≤ m → b ≤ m → plus w (times w a b) k ≡ a * b + k
  one_sum a b p q =
      let small = product_below a b p q in
      ap (λ x. (x + k) % w) (mod-eq_of_lt (omega (arith, small))) ∙ mod-eq_of_lt small

-- sixteen times one number
pub splat_at : (n j : ℕ) → j < 16 → get_or (replicate 16 n) j 0 ≡ n
splat_at n j lt = get_or-replicate 16 j n 0 lt

-- sums of products, before they are divided
pub Makes-scaled_by_sums : (w m k : ℕ) → m * m + k < w → (xs ys : List ℕ) → AreLanes (m + 1) xs → AreLanes (m + 1) ys
    → Makes w (scaled_by_sums w xs ys (replicate 16 k)) (λ j. get_or xs j 0 * get_or ys j 0 + k)
Makes-scaled_by_sums w m k room xs ys p q =
    Makes-from_four (λ xs ys zs ws. scaled_by_sums w xs ys zs) (λ a b c d. plus w (times w a b) c) (λ a b c d xs ys zs ws. refl) refl w _ (omega (arith, room))
    xs ys (replicate 16 k) xs p.long q.long refl p.long
    (λ j lt.
    let a : get_or xs j 0 ≤ m = omega (arith, p.below j) in
    let b : get_or ys j 0 ≤ m = omega (arith, q.below j) in
    (ap (λ c. plus w (times w (get_or xs j 0) (get_or ys j 0)) c) (splat_at k j lt) ∙ one_sum w m k room _ _ a b, product_below w m k room _ _ a b))

-- bytes: the sums are divided by 255
abbrev pub scaled_by_bytes : List ℕ → List ℕ → List ℕ
scaled_by_bytes xs ys = zip2 over (scaled_by_sums 65536 xs ys (replicate 16 127)) (replicate 16 255)

pub Makes-scaled_by_bytes : (xs ys : List ℕ) → AreLanes 256 xs → AreLanes 256 ys → Makes 256 (scaled_by_bytes xs ys) (λ j. scaled_by 255 (get_or xs j 0) (get_or ys j 0))
Makes-scaled_by_bytes xs ys p q =
    let sums = Makes-scaled_by_sums 65536 255 127 (omega arith) xs ys p q in
    let v = scaled_by_sums 65536 xs ys (replicate 16 127) in
    Makes-from_two (zip2 over) over (λ a b xs ys. refl) refl 256 _ (omega arith) v (replicate 16 255) sums.0.long refl
    (λ j lt.
    let e : over (get_or v j 0) (get_or (replicate 16 255) j 0) ≡ scaled_by 255 (get_or xs j 0) (get_or ys j 0) =
    ap (λ c. over (get_or v j 0) c) (splat_at 255 j lt) ∙ ap (λ n. n / 255) (sums.1 j lt) in
    (e, omega (arith, mul-le-mul {n₂ = 255} {m₂ = 255} (below_le 255 xs p j) (below_le 255 ys q j))))

-- words: the sums are divided by 65,535 with shifts
by_shifts : (n : ℕ) → n < 4294901760 → (n + 1 + n / 65536) / 65536 ≡ n / 65535
by_shifts n lt = omega arith

abbrev pub quotients_by_shifts : List ℕ → List ℕ → List ℕ → List ℕ
quotients_by_shifts xs ys zs = zip2 shifted (zip2 (plus 4294967296) (zip2 (plus 4294967296) xs ys) (zip2 shifted xs zs)) zs

pub one_quotient : (n : ℕ) → n < 4294901760 → shifted (plus 4294967296 (plus 4294967296 n 1) (shifted n 16)) 16 ≡ n / 65535
one_quotient n lt =
    let small : (n + 1) % 4294967296 ≡ n + 1 = omega arith in
    let sum : (n + 1 + n / 65536) % 4294967296 ≡ n + 1 + n / 65536 = omega arith in
    ap (λ k. (k + n / 65536) % 4294967296 / 65536) small ∙ ap (λ k. k / 65536) sum ∙ by_shifts n lt

abbrev pub scaled_by_words : List ℕ → List ℕ → List ℕ
scaled_by_words xs ys = quotients_by_shifts (scaled_by_sums 4294967296 xs ys (replicate 16 32767)) (replicate 16 1) (replicate 16 16)

pub Makes-scaled_by_words : (xs ys : List ℕ) → AreLanes 65536 xs → AreLanes 65536 ys → Makes 65536 (scaled_by_words xs ys) (λ j. scaled_by 65535 (get_or xs j 0) (get_or ys j 0))
Makes-scaled_by_words xs ys p q =
    let sums = Makes-scaled_by_sums 4294967296 65535 32767 (omega arith) xs ys p q in
    let v = scaled_by_sums 4294967296 xs ys (replicate 16 32767) in
    Makes-from_four (λ xs ys zs ws. quotients_by_shifts xs ys zs) (λ a b c d. shifted (plus 4294967296 (plus 4294967296 a b) (shifted a c)) c) (λ a b c d xs ys zs ws. refl) refl 65536 _ (omega arith)
    v (replicate 16 1) (replicate 16 16) v sums.0.long refl refl sums.0.long
    (λ j lt.
    let few = mul-le-mul {n₂ = 65535} {m₂ = 65535} (below_le 65535 xs p j) (below_le 65535 ys q j) in
    let n = get_or xs j 0 * get_or ys j 0 + 32767 in
    let small : n < 4294901760 = omega arith in (
      ap (λ b. shifted (plus 4294967296 (plus 4294967296 (get_or v j 0) b) (shifted (get_or v j 0) (get_or (replicate 16 16) j 0))) (get_or (replicate 16 16) j 0)) (splat_at 1 j lt)
          ∙ ap (λ c. shifted (plus 4294967296 (plus 4294967296 (get_or v j 0) 1) (shifted (get_or v j 0) c)) c) (splat_at 16 j lt)
          ∙ ap (λ a. shifted (plus 4294967296 (plus 4294967296 a 1) (shifted a 16)) 16) (sums.1 j lt) ∙ one_quotient n small,
      omega arith,
    ))

-- a narrowing cast leaves the numbers of a vector as they are
pub Makes-cast : (bound : ℕ) (v : List ℕ) (value : ℕ → ℕ) → 0 < bound → Makes bound v value → Makes bound (map same v) value
Makes-cast bound v value some p =
    Makes-from_two (λ xs ys. map same xs) (λ a b. a) (λ a b xs ys. refl) refl bound value some v v p.0.long p.0.long
    (λ j lt. (p.1 j lt, omega (arith, p.1 j lt, p.0.below j)))

AreLanes-cast : (bound : ℕ) (v : List ℕ) → 0 < bound → length v ≡ 16 → ((j : ℕ) → j < 16 → get_or v j 0 < bound) → AreLanes bound (map same v)
AreLanes-cast bound v some long small =
    let value : ℕ → ℕ = λ j. get_or v j 0 in
    (Makes-cast bound v value some (Makes-from_lanes bound v value some long (λ j lt. refl) small)).0

-- a cast of numbers below one bound, which are below a wider one too
pub AreLanes-cast_up : (bound wide : ℕ) (v : List ℕ) → 0 < wide → bound ≤ wide → AreLanes bound v → AreLanes wide (map same v)
AreLanes-cast_up bound wide v some le p = AreLanes-cast wide v some p.long (λ j lt. omega (arith, p.below j))

-- what is computed of two vectors of numbers below a bound, lane by lane
pub AreLanes-wrapped : (bound : ℕ) (f : ℕ → ℕ → ℕ) → 0 < bound → ((a b : ℕ) → f a b < bound) → (xs ys : List ℕ) → length xs ≡ 16 → length ys ≡ 16 → AreLanes bound (zip2 f xs ys)
AreLanes-wrapped bound f some small xs ys p q =
    (Makes-from_two (zip2 f) f (λ a b xs ys. refl) refl bound (λ j. f (get_or xs j 0) (get_or ys j 0)) some xs ys p q (λ j lt. (refl, small _ _))).0

-- ---- means of samples below m, which are computed in lanes below w

abbrev pub sums_of_three : ℕ → List ℕ → List ℕ → List ℕ → List ℕ → List ℕ
sums_of_three w xs ys zs ws = zip2 (plus w) (zip2 (plus w) (map same xs) (map same ys)) (zip2 (plus w) (map same zs) ws)

abbrev pub sums_of_four : ℕ → List ℕ → List ℕ → List ℕ → List ℕ → List ℕ
sums_of_four w xs ys zs ws = zip2 (plus w) (zip2 (plus w) (map same xs) (map same ys)) (zip2 (plus w) (map same zs) (map same ws))

sum_of_two : (w a b : ℕ) → a + b < w → plus w a b ≡ a + b
sum_of_two w a b room = mod-eq_of_lt room

sum_of_pairs : (w a b c d : ℕ) → a + b + c + d < w → plus w (plus w a b) (plus w c d) ≡ a + b + c + d
sum_of_pairs w a b c d room =
    ap (λ n. (n + plus w c d) % w) (sum_of_two w a b (omega arith)) ∙ ap (λ n. (a + b + n) % w) (sum_of_two w c d (omega arith))
    ∙ sum_of_two w (a + b) (c + d) (omega arith) ∙ omega arith

module _ (w m : ℕ) (some : 0 < m) (room : 4 * m + 4 ≤ w) (xs ys zs ws : List ℕ) (p : AreLanes m xs) (q : AreLanes m ys) (r : AreLanes m zs) where
  Makes-sums_of_three : Makes w (sums_of_three w xs ys zs (replicate 16 1)) (λ j. get_or xs j 0 + get_or ys j 0 + get_or zs j 0 + 1)
  Makes-sums_of_three =
      Makes-from_four (sums_of_three w) (λ a b c d. plus w (plus w a b) (plus w c d)) (λ a b c d xs ys zs ws. refl) refl w _ (omega arith)
      xs ys zs (replicate 16 1) p.long q.long r.long refl
      (λ j lt.
      let small : get_or xs j 0 + get_or ys j 0 + get_or zs j 0 + 1 < w = omega (arith, p.below j, q.below j, r.below j) in
      (ap (λ n. plus w (plus w (get_or xs j 0) (get_or ys j 0)) (plus w (get_or zs j 0) n)) (splat_at 1 j lt) ∙ sum_of_pairs w _ _ _ 1 small, small))

  pub Makes-means_of_three : Makes m (zip2 over (sums_of_three w xs ys zs (replicate 16 1)) (replicate 16 3)) (λ j. mean_of_three (get_or xs j 0) (get_or ys j 0) (get_or zs j 0))
  Makes-means_of_three =
      let v = sums_of_three w xs ys zs (replicate 16 1) in
      Makes-from_two (zip2 over) over (λ a b xs ys. refl) refl m _ some v (replicate 16 3) Makes-sums_of_three.0.long refl
      (λ j lt.
      (ap (λ n. get_or v j 0 / n) (splat_at 3 j lt) ∙ ap (λ n. n / 3) (Makes-sums_of_three.1 j lt), omega (arith, p.below j, q.below j, r.below j)))

  module _ (s : AreLanes m ws) where
    Makes-sums_of_four : Makes w (sums_of_four w xs ys zs ws) (λ j. get_or xs j 0 + get_or ys j 0 + get_or zs j 0 + get_or ws j 0)
    Makes-sums_of_four =
        Makes-from_four (sums_of_four w) (λ a b c d. plus w (plus w a b) (plus w c d)) (λ a b c d xs ys zs ws. refl) refl w _ (omega arith)
        xs ys zs ws p.long q.long r.long s.long
        (λ j lt.
        let small : get_or xs j 0 + get_or ys j 0 + get_or zs j 0 + get_or ws j 0 < w = omega (arith, p.below j, q.below j, r.below j, s.below j) in
        (sum_of_pairs w _ _ _ _ small, small))

    pub Makes-means_of_four : Makes m (zip2 shifted (zip2 (plus w) (sums_of_four w xs ys zs ws) (replicate 16 2)) (replicate 16 2)) (λ j. mean_of_four (get_or xs j 0) (get_or ys j 0) (get_or zs j 0) (get_or ws j 0))
    Makes-means_of_four =
        let v = sums_of_four w xs ys zs ws in
        Makes-from_two (λ xs ys. zip2 shifted (zip2 (plus w) xs ys) ys) (λ a b. shifted (plus w a b) b) (λ a b xs ys. refl) refl m _ some v (replicate 16 2) Makes-sums_of_four.0.long refl
        (λ j lt.
        let small : get_or xs j 0 + get_or ys j 0 + get_or zs j 0 + get_or ws j 0 + 2 < w = omega (arith, p.below j, q.below j, r.below j, s.below j) in (
          ap (λ n. shifted (plus w (get_or v j 0) n) n) (splat_at 2 j lt) ∙ ap (λ n. shifted (plus w n 2) 2) (Makes-sums_of_four.1 j lt) ∙ ap (λ n. n / 4) (mod-eq_of_lt small),
          omega (arith, p.below j, q.below j, r.below j, s.below j),
        ))

-- ---- samples of four bytes, scaled: the sums are divided by 2^32 - 1 with shifts

abbrev pub quotients_of_longs : List ℕ → List ℕ → List ℕ → List ℕ
quotients_of_longs xs ys zs =
    zip2 shifted (zip2 (plus 18446744073709551616) (zip2 (plus 18446744073709551616) xs ys) (zip2 shifted xs zs)) zs

pub one_long : (n : ℕ) → n < 18446744069414584320 → shifted (plus 18446744073709551616 (plus 18446744073709551616 n 1) (shifted n 32)) 32 ≡ n / 4294967295
one_long n lt =
    let small : (n + 1) % 18446744073709551616 ≡ n + 1 = mod-eq_of_lt (omega (arith, lt)) in
    let sum : (n + 1 + n / 4294967296) % 18446744073709551616 ≡ n + 1 + n / 4294967296 = mod-eq_of_lt (omega (arith, lt)) in
    let exact : (n + 1 + n / 4294967296) / 4294967296 ≡ n / 4294967295 = omega (arith, lt) in
    ap (λ k. (k + n / 4294967296) % 18446744073709551616 / 4294967296) small ∙ ap (λ k. k / 4294967296) sum ∙ exact

abbrev pub scaled_by_longs : List ℕ → List ℕ → List ℕ
scaled_by_longs xs ys = quotients_of_longs (scaled_by_sums 18446744073709551616 xs ys (replicate 16 2147483647)) (replicate 16 1) (replicate 16 32)

pub Makes-scaled_by_longs : (xs ys : List ℕ) → AreLanes 4294967296 xs → AreLanes 4294967296 ys → Makes 4294967296 (scaled_by_longs xs ys) (λ j. scaled_by 4294967295 (get_or xs j 0) (get_or ys j 0))
Makes-scaled_by_longs xs ys p q =
    let w : ℕ = 18446744073709551616 in
    let sums = Makes-scaled_by_sums 18446744073709551616 4294967295 2147483647 (omega arith) xs ys p q in
    let v = scaled_by_sums 18446744073709551616 xs ys (replicate 16 2147483647) in
    Makes-from_four (λ xs ys zs ws. quotients_of_longs xs ys zs) (λ a b c d. shifted (plus w (plus w a b) (shifted a c)) c) (λ a b c d xs ys zs ws. refl) refl 4294967296 _ (omega arith)
    v (replicate 16 1) (replicate 16 32) v sums.0.long refl refl sums.0.long
    (λ j lt.
    let few = mul-le-mul {n₂ = 4294967295} {m₂ = 4294967295} (below_le 4294967295 xs p j) (below_le 4294967295 ys q j) in
    let n = get_or xs j 0 * get_or ys j 0 + 2147483647 in
    let small : n < 18446744069414584320 = omega (arith, few) in (
      ap (λ b. shifted (plus w (plus w (get_or v j 0) b) (shifted (get_or v j 0) (get_or (replicate 16 32) j 0))) (get_or (replicate 16 32) j 0)) (splat_at 1 j lt)
          ∙ ap (λ c. shifted (plus w (plus w (get_or v j 0) 1) (shifted (get_or v j 0) c)) c) (splat_at 32 j lt)
          ∙ ap (λ a. shifted (plus w (plus w a 1) (shifted a 32)) 32) (sums.1 j lt) ∙ one_long n small,
      omega (arith, few),
    ))
