-- Mixtures of two vectors by the weights of a third, which are computed in wider lanes.
use Rattle.std.proofs.Common.{◌≡◌, ℕ, ◌+◌, ◌-◌, ◌*◌, ◌/◌, ◌%◌, ◌<◌, ◌≤◌, List, length, get_or, map, replicate, refl, sym, ap, ◌∙◌, arith}
use Rattle.std.proofs.Math.Nat.{add-mod_right, mod-eq_of_lt, mul-add, mul-le-mul}
use lib.Lanes.{zip2}
use Rattle.pixel_formats.specs.Blend.{blended}
use Rattle.simd_samples.specs.Lanes.{AreLanes}
use Rattle.simd_samples.proofs.Arithmetic.{below_le, one_long, one_quotient, over, plus, quotients_by_shifts, quotients_of_longs, same, shifted, times}
use Rattle.simd_samples.proofs.Pointwise.{Makes, Makes-from_four}
use Rattle.simd_samples.proofs.Scaling.{three_splats}

abbrev pub minus : ℕ → ℕ → ℕ → ℕ
minus w a b = (a + (w - b)) % w

-- ---- one mixture, of samples that are at most m

module _ (m a b v : ℕ) (p : a ≤ m) (q : b ≤ m) (r : v ≤ m) where
  mixture_le : a * (m - v) + b * v ≤ m * m
  mixture_le =
      let first : a * (m - v) ≤ m * (m - v) = mul-le-mul {n₁ = a} {m₁ = m - v} {n₂ = m} {m₂ = m - v} p (omega arith) in
      let second : b * v ≤ m * v = mul-le-mul {n₁ = b} {m₁ = v} {n₂ = m} {m₂ = v} q (omega arith) in
      let whole : m * (m - v) + m * v ≡ m * m = sym (mul-add m (m - v) v) ∙ ap (λ n. m * n) (omega arith) in
      omega (arith, first, second, whole)

  one_mixture : (w : ℕ) → m < w → m * m < w → plus w (times w a (minus w m v)) (times w b v) ≡ a * (m - v) + b * v
  one_mixture w few room =
      let at : m + (w - v) ≡ m - v + w = omega arith in
      let left : minus w m v ≡ m - v = ap (λ n. n % w) at ∙ add-mod_right (m - v) w ∙ mod-eq_of_lt (omega arith) in
      ap (λ n. plus w (times w a n) (times w b v)) left
      ∙ ap (λ n. plus w n (times w b v)) (mod-eq_of_lt (omega (arith, mixture_le, room)))
      ∙ ap (plus w (a * (m - v))) (mod-eq_of_lt (omega (arith, mixture_le, room)))
      ∙ mod-eq_of_lt (omega (arith, mixture_le, room))

-- ---- the mixtures of vectors, in lanes below w

abbrev pub mixtures : ℕ → List ℕ → List ℕ → List ℕ → List ℕ → List ℕ
mixtures w xs ys vs ms = zip2 (plus w) (zip2 (times w) (map same xs) (zip2 (minus w) ms (map same vs))) (zip2 (times w) (map same ys) (map same vs))

module _ (w m : ℕ) (few : m < w) (room : m * m < w) (xs ys vs : List ℕ) (p : AreLanes (m + 1) xs) (q : AreLanes (m + 1) ys) (r : AreLanes (m + 1) vs) where
  small_mixture : (j : ℕ) → get_or xs j 0 * (m - get_or vs j 0) + get_or ys j 0 * get_or vs j 0 ≤ m * m
  small_mixture j = mixture_le m (get_or xs j 0) (get_or ys j 0) (get_or vs j 0) (below_le m xs p j) (below_le m ys q j) (below_le m vs r j)

  Makes-mixtures : Makes w (mixtures w xs ys vs (replicate 16 m)) (λ j. get_or xs j 0 * (m - get_or vs j 0) + get_or ys j 0 * get_or vs j 0)
  Makes-mixtures =
      Makes-from_four (mixtures w) (λ a b v n. plus w (times w a (minus w n v)) (times w b v)) (λ a b c d xs ys zs ws. refl) refl w _ (omega (arith, few))
      xs ys vs (replicate 16 m) p.long q.long r.long refl
      (λ j lt. (
        three_splats (λ n c d. plus w (times w (get_or xs j 0) (minus w n (get_or vs j 0))) (times w (get_or ys j 0) (get_or vs j 0))) j m m m lt
            ∙ one_mixture m (get_or xs j 0) (get_or ys j 0) (get_or vs j 0) (below_le m xs p j) (below_le m ys q j) (below_le m vs r j) w few room,
        omega (arith, small_mixture j, room),
      ))

-- ---- bytes: the sums are divided by 255

abbrev pub blended_bytes : List ℕ → List ℕ → List ℕ → List ℕ
blended_bytes xs ys vs = zip2 over (zip2 (plus 65536) (mixtures 65536 xs ys vs (replicate 16 255)) (replicate 16 127)) (replicate 16 255)

pub Makes-blended_bytes : (xs ys vs : List ℕ) → AreLanes 256 xs → AreLanes 256 ys → AreLanes 256 vs
    → Makes 256 (blended_bytes xs ys vs) (λ j. blended 255 (get_or xs j 0) (get_or ys j 0) (get_or vs j 0))
Makes-blended_bytes xs ys vs p q r =
    let w : ℕ = 65536 in
    let mixed = Makes-mixtures w 255 (omega arith) (omega arith) xs ys vs p q r in
    let v = mixtures w xs ys vs (replicate 16 255) in
    Makes-from_four (λ xs ys zs ws. zip2 over (zip2 (plus w) xs ys) zs) (λ a b c d. over (plus w a b) c) (λ a b c d xs ys zs ws. refl) refl 256 _ (omega arith)
    v (replicate 16 127) (replicate 16 255) v mixed.0.long refl refl mixed.0.long
    (λ j lt.
    let few = small_mixture w 255 (omega arith) (omega arith) xs ys vs p q r j in
    let sum : plus w (get_or xs j 0 * (255 - get_or vs j 0) + get_or ys j 0 * get_or vs j 0) 127 ≡ get_or xs j 0 * (255 - get_or vs j 0) + get_or ys j 0 * get_or vs j 0 + 127 =
    mod-eq_of_lt (omega (arith, few)) in (
      three_splats (λ b c d. over (plus w (get_or v j 0) b) c) j 127 255 255 lt ∙ ap (λ n. over (plus w n 127) 255) (mixed.1 j lt) ∙ ap (λ n. n / 255) sum,
      omega (arith, few),
    ))

-- ---- words: by 65,535 with shifts

abbrev pub blended_words : List ℕ → List ℕ → List ℕ → List ℕ
blended_words xs ys vs =
    quotients_by_shifts (zip2 (plus 4294967296) (mixtures 4294967296 xs ys vs (replicate 16 65535)) (replicate 16 32767)) (replicate 16 1) (replicate 16 16)

pub Makes-blended_words : (xs ys vs : List ℕ) → AreLanes 65536 xs → AreLanes 65536 ys → AreLanes 65536 vs
    → Makes 65536 (blended_words xs ys vs) (λ j. blended 65535 (get_or xs j 0) (get_or ys j 0) (get_or vs j 0))
Makes-blended_words xs ys vs p q r =
    let w : ℕ = 4294967296 in
    let mixed = Makes-mixtures w 65535 (omega arith) (omega arith) xs ys vs p q r in
    let v = mixtures w xs ys vs (replicate 16 65535) in
    Makes-from_four (λ xs ys zs ws. quotients_by_shifts (zip2 (plus w) xs ys) zs ws)
    (λ a b c d. shifted (plus w (plus w (plus w a b) c) (shifted (plus w a b) d)) d) (λ a b c d xs ys zs ws. refl) refl 65536 _ (omega arith)
    v (replicate 16 32767) (replicate 16 1) (replicate 16 16) mixed.0.long refl refl refl
    (λ j lt.
    let few = small_mixture w 65535 (omega arith) (omega arith) xs ys vs p q r j in
    let n = get_or xs j 0 * (65535 - get_or vs j 0) + get_or ys j 0 * get_or vs j 0 in
    let sum : plus w n 32767 ≡ n + 32767 = mod-eq_of_lt (omega (arith, few)) in (
      three_splats (λ b c d. shifted (plus w (plus w (plus w (get_or v j 0) b) c) (shifted (plus w (get_or v j 0) b) d)) d) j 32767 1 16 lt
          ∙ ap (λ a. shifted (plus w (plus w (plus w a 32767) 1) (shifted (plus w a 32767) 16)) 16) (mixed.1 j lt)
          ∙ ap (λ a. shifted (plus w (plus w a 1) (shifted a 16)) 16) sum
          ∙ one_quotient (n + 32767) (omega (arith, few)),
      omega (arith, few),
    ))

-- ---- samples of four bytes: by 2^32 - 1 with shifts

abbrev pub blended_longs : List ℕ → List ℕ → List ℕ → List ℕ
blended_longs xs ys vs =
    quotients_of_longs
    (zip2 (plus 18446744073709551616) (mixtures 18446744073709551616 xs ys vs (replicate 16 4294967295)) (replicate 16 2147483647))
    (replicate 16 1) (replicate 16 32)

pub Makes-blended_longs : (xs ys vs : List ℕ) → AreLanes 4294967296 xs → AreLanes 4294967296 ys → AreLanes 4294967296 vs
    → Makes 4294967296 (blended_longs xs ys vs) (λ j. blended 4294967295 (get_or xs j 0) (get_or ys j 0) (get_or vs j 0))
Makes-blended_longs xs ys vs p q r =
    let w : ℕ = 18446744073709551616 in
    let mixed = Makes-mixtures w 4294967295 (omega arith) (omega arith) xs ys vs p q r in
    let v = mixtures w xs ys vs (replicate 16 4294967295) in
    Makes-from_four (λ xs ys zs ws. quotients_of_longs (zip2 (plus w) xs ys) zs ws)
    (λ a b c d. shifted (plus w (plus w (plus w a b) c) (shifted (plus w a b) d)) d) (λ a b c d xs ys zs ws. refl) refl 4294967296 _ (omega arith)
    v (replicate 16 2147483647) (replicate 16 1) (replicate 16 32) mixed.0.long refl refl refl
    (λ j lt.
    let few = small_mixture w 4294967295 (omega arith) (omega arith) xs ys vs p q r j in
    let n = get_or xs j 0 * (4294967295 - get_or vs j 0) + get_or ys j 0 * get_or vs j 0 in
    let sum : plus w n 2147483647 ≡ n + 2147483647 = mod-eq_of_lt (omega (arith, few)) in (
      three_splats (λ b c d. shifted (plus w (plus w (plus w (get_or v j 0) b) c) (shifted (plus w (get_or v j 0) b) d)) d) j 2147483647 1 32 lt
          ∙ ap (λ a. shifted (plus w (plus w (plus w a 2147483647) 1) (shifted (plus w a 2147483647) 32)) 32) (mixed.1 j lt)
          ∙ ap (λ a. shifted (plus w (plus w a 1) (shifted a 32)) 32) sum
          ∙ one_long (n + 2147483647) (omega (arith, few)),
      omega (arith, few),
    ))
