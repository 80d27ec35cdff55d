-- Means of squares from the sums of their columns.
use Rattle.std.proofs.Common.{◌≡◌, ℕ, zero, suc, ◌+◌, ◌*◌, ◌/◌, ◌%◌, ◌<◌, ◌≤◌, List, get_or, map, sum, refl, sym, ap, ◌∙◌, inl, inr, subst, arith, w8, Fits}
use Rattle.std.specs.List.{range_with_len}
use Rattle.std.proofs.lemmas.Bool.{cases_lt}
use Rattle.std.proofs.lemmas.Nat.{div-add-mod', div-mul-add, div_below, mod-mul-add, mod_below, mul-add-lt}
use Rattle.std.proofs.lemmas.List.Sums.{sum_by-cons}
use Rattle.pixel_formats.specs.declared.format.Format.{Format}
use Rattle.pixel_formats.specs.Format.{channels, depth}
use Rattle.pixel_formats.specs.Sample.{max_sample_of, sample_at}
use Rattle.model_operations.specs.Windows.{mean_of, window_side}
use Rattle.area_kernels.specs.Columns.{HoldsColumns}
use Rattle.area_kernels.specs.Parts.{HoldsPart, square_samples}
use Rattle.area_kernels.specs.Sequences.{mean_sum, sum_of}
use Rattle.area_kernels.proofs.CopiedSamples.{row_within}
use Rattle.area_kernels.proofs.PartLaws.{HoldsPart-from, sample-held, within_row}
use Rattle.area_kernels.proofs.SumLaws.{sample-below, sample_within, sum_of-below, sum_of-same, sum_of-slid}

-- ---- sums of sums

sum_of-zeros : (n : ℕ) → sum_of n (λ _. 0) ≡ 0
sum_of-zeros zero = refl
sum_of-zeros (suc n) = omega (arith, sum_of-zeros n)

sum_of-plus : (n : ℕ) (f g : ℕ → ℕ) → sum_of n (λ k. f k + g k) ≡ sum_of n f + sum_of n g
sum_of-plus zero f g = refl
sum_of-plus (suc n) f g = omega (arith, sum_of-plus n f g)

sum_of-swap : (n m : ℕ) (g : ℕ → ℕ → ℕ) → sum_of n (λ i. sum_of m (λ j. g i j)) ≡ sum_of m (λ j. sum_of n (λ i. g i j))
sum_of-swap zero m g = sym (sum_of-zeros m)
sum_of-swap (suc n) m g =
    ap (λ s. s + sum_of m (λ j. g n j)) (sum_of-swap n m g) ∙ sym (sum_of-plus m (λ j. sum_of n (λ i. g i j)) (λ j. g n j))

sum_of-append : (a b : ℕ) (f : ℕ → ℕ) → sum_of (a + b) f ≡ sum_of a f + sum_of b (λ k. f (a + k))
sum_of-append a zero f =
    let none : a + zero ≡ a = omega arith in
    ap (λ n. sum_of n f) none ∙ omega arith
sum_of-append a (suc b) f =
    let next : a + suc b ≡ suc (a + b) = omega arith in
    ap (λ n. sum_of n f) next ∙ omega (arith, sum_of-append a b f)

-- numbers by rows of m
sum_of-rows : (t m : ℕ) (g : ℕ → ℕ → ℕ) → sum_of (t * m) (λ k. g (k % m) (k / m)) ≡ sum_of t (λ j. sum_of m (λ i. g i j))
sum_of-rows zero m g =
    let none : zero * m ≡ 0 = omega arith in
    ap (λ n. sum_of n (λ k. g (k % m) (k / m))) none
sum_of-rows (suc t) m g =
    let f : ℕ → ℕ = λ k. g (k % m) (k / m) in
    let next : suc t * m ≡ t * m + m = omega arith in
    let row : sum_of m (λ k. f (t * m + k)) ≡ sum_of m (λ i. g i t) =
    sum_of-same m (λ k. f (t * m + k)) (λ i. g i t) (λ k lt. λ e. g (mod-mul-add t m k lt e) (div-mul-add t m k lt e)) in
    ap (λ n. sum_of n f) next ∙ sum_of-append (t * m) m f ∙ (λ e. sum_of-rows t m g e + row e)

sum-range : (f : ℕ → ℕ) (a n : ℕ) → sum (map f (range_with_len a n)) ≡ sum_of n (λ k. f (a + k))
sum-range f a zero = refl
sum-range f a (suc n) =
    let first : f (a + 0) ≡ f a = ap f (omega arith) in
    let rest : sum_of n (λ k. f (a + 1 + k)) ≡ sum_of n (λ k. f (a + (k + 1))) =
    sum_of-same n (λ k. f (a + 1 + k)) (λ k. f (a + (k + 1))) (λ k _. ap f (omega arith)) in
    sum_by-cons (λ x. x) (f a) (map f (range_with_len ((a + 1)) n))
    ∙ omega (arith, sum-range f ((a + 1)) n, first, rest, sum_of-slid n (λ k. f (a + k)))

-- the sum of a square's samples is that of the sums of its columns
pub sum_of_square : (radius : ℕ) (f : ℕ → ℕ → ℕ → ℕ) (u v c : ℕ)
    → sum (square_samples radius f u v c) ≡ sum_of (window_side radius) (λ i. sum_of (window_side radius) (λ j. f (u + i) (v + j) c))
sum_of_square radius f u v c =
    let side = window_side radius in
    let g : ℕ → ℕ → ℕ = λ i j. f (u + i) (v + j) c in
    let F : ℕ → ℕ = λ k. g (k / 1 % side) (k / 1 / side) in
    let all : side * side * 1 ≡ side * side = omega arith in
    sum-range F 0 (side * side * 1)
    ∙ ap (λ n. sum_of n (λ k. F (0 + k))) all
    ∙ sum_of-same (side * side) (λ k. F (0 + k)) (λ k. g (k % side) (k / side))
    (λ k _. let here : (0 + k) / 1 ≡ k = omega arith in λ e. g (here e % side) (here e / side))
    ∙ sum_of-rows side side g ∙ sym (sum_of-swap side side g)

-- ---- rows of means

-- sums of squares are below the sum of as many largest samples
sums_small : (w n reach limit : ℕ) (sums columns : ℕ → ℕ)
    → ((x c : ℕ) → x < w → c < n → sums (x * n + c) ≡ sum_of (reach + 1) (λ k. columns ((x + k) * n + c)))
    → ((i : ℕ) → i < (w + reach) * n → columns i ≤ limit) → ((i : ℕ) → w * n ≤ i → sums i ≡ 0) → (i : ℕ) → sums i ≤ (reach + 1) * limit
sums_small w zero reach limit sums columns made small clear i = omega (arith, clear i (omega arith))
sums_small w (suc p) reach limit sums columns made small clear i = elim (cases_lt i (w * suc p)) [
  | inl within ↦
      let n = suc p in
      let at : i / n * n + i % n ≡ i = div-add-mod' i n in
      let column = div_below i n w (omega arith) within in
      let channel = mod_below i n (omega arith) in
      let is = made (i / n) (i % n) column channel in
      let here : sums (i / n * n + i % n) ≡ sums i = ap sums at in
      omega (
        arith,
        is,
        here,
        sum_of-below (reach + 1) limit (λ k. columns ((i / n + k) * n + i % n))
            (λ k lt. small ((i / n + k) * n + i % n) (sample_within n w reach (i / n) (i % n) k column channel (omega arith))),
      )
  | inr past ↦ omega (arith, clear i past)
]

-- the same where it is told how many samples a square has
pub squares_small : (w n r max_sample size : ℕ) (sums columns : ℕ → ℕ) → size ≡ (2 * r + 1) * (2 * r + 1)
    → ((x c : ℕ) → x < w → c < n → sums (x * n + c) ≡ sum_of (2 * r + 1) (λ k. columns ((x + k) * n + c)))
    → ((i : ℕ) → i < (w + 2 * r) * n → columns i ≤ (2 * r + 1) * max_sample) → ((i : ℕ) → w * n ≤ i → sums i ≡ 0) → (i : ℕ) → sums i ≤ size * max_sample
squares_small w n r max_sample size sums columns is made small clear i =
    omega (arith, sums_small w n (2 * r) ((2 * r + 1) * max_sample) sums columns made small clear i, ap (λ k. k * max_sample) is)

-- the sums of columns are below the sum of as many largest samples
pub columns_small : (d stride side y : ℕ) (patch : List ℕ) (columns : ℕ → ℕ) → ((k : ℕ) → Fits w8 (get_or patch k 0)) → HoldsColumns d stride side y patch columns
    → (i : ℕ) → i < stride → columns i ≤ side * max_sample_of d
columns_small d stride side y patch columns fits held i within =
    omega (
      arith,
      held.columns i within,
      sum_of-below side (max_sample_of d) (λ j. sample_at d patch ((y + j) * stride + i)) (λ j _. sample-below d patch fits ((y + j) * stride + i)),
    )

-- the mean at a position of a row
abbrev pub mean_at : (d w r n : ℕ) (patch : List ℕ) (x y c : ℕ) → ℕ
mean_at d w r n patch x y c =
    mean_sum ((2 * r + 1) * (2 * r + 1)) (sum_of (2 * r + 1) (λ i. sum_of (2 * r + 1) (λ j. sample_at d patch ((y + j) * ((w + 2 * r) * n) + ((x + i) * n + c)))))

module _ (d w r n y stride divisor : ℕ) (patch : List ℕ) (columns : ℕ → ℕ) (means : List ℕ) (is_stride : stride ≡ (w + 2 * r) * n) (is_count : divisor ≡ (2 * r + 1) * (2 * r + 1))
    (held : HoldsColumns d stride (2 * r + 1) y patch columns) where
  pub mean_of_columns : (x c : ℕ) → x < w → c < n
      → sample_at d means (x * n + c) ≡ mean_sum divisor (sum_of (2 * r + 1) (λ i. columns ((x + i) * n + c)))
      → sample_at d means (x * n + c) ≡ mean_at d w r n patch x y c
  mean_of_columns x c column channel made =
      let m = 2 * r + 1 in
      let same : sum_of m (λ i. columns ((x + i) * n + c)) ≡ sum_of m (λ i. sum_of m (λ j. sample_at d patch ((y + j) * stride + ((x + i) * n + c)))) =
      sum_of-same m (λ i. columns ((x + i) * n + c)) (λ i. sum_of m (λ j. sample_at d patch ((y + j) * stride + ((x + i) * n + c))))
      (λ i lt.
      let inside : (x + i) * n + c < stride = omega (arith, within_row n w r stride x c i is_stride column channel (omega arith)) in
      held.columns ((x + i) * n + c) inside) in
      made ∙ (λ t. mean_sum (is_count t) (same t))
      ∙ (λ t. mean_sum (m * m) (sum_of m (λ i. sum_of m (λ j. sample_at d patch ((y + j) * is_stride t + ((x + i) * n + c))))))

-- a row of means more was copied
pub mean_rows_more : (d w r n y : ℕ) (patch old new means : List ℕ)
    → ((x y' c : ℕ) → x < w → y' < y → c < n → sample_at d old (y' * (w * n) + (x * n + c)) ≡ mean_at d w r n patch x y' c)
    → ((x c : ℕ) → x < w → c < n → sample_at d means (x * n + c) ≡ mean_at d w r n patch x y c)
    → ((i : ℕ) → i < w * n → sample_at d new (y * (w * n) + i) ≡ sample_at d means (0 + i))
    → ((i : ℕ) → i < y * (w * n) → sample_at d new i ≡ sample_at d old i)
    → (x y' c : ℕ) → x < w → y' < y + 1 → c < n → sample_at d new (y' * (w * n) + (x * n + c)) ≡ mean_at d w r n patch x y' c
mean_rows_more d w r n y patch old new means before row here kept x y' c column lt channel =
    let within : x * n + c < w * n = omega (arith, mul-add-lt x n c w column channel) in
    elim (cases_lt y' y) [
      | inl earlier ↦ kept (y' * (w * n) + (x * n + c)) (omega (arith, within, row_within y' y (w * n) earlier)) ∙ before x y' c column earlier channel
      | inr last ↦
          let at : y ≡ y' = omega arith in
          subst (λ k. sample_at d new (k * (w * n) + (x * n + c)) ≡ mean_at d w r n patch x k c) at
          (here (x * n + c) within ∙ ap (sample_at d means) (omega arith) ∙ row x c column channel)
    ]

-- the means of the squares are those of the result's part
pub part_of_means : (format : Format) (w h r d n : ℕ) (patch dst : List ℕ) (f : ℕ → ℕ → ℕ → ℕ) (u v : ℕ) → depth format ≡ d → channels format ≡ n
    → ((x y c : ℕ) → x < w → y < h → c < n → sample_at d dst (y * (w * n) + (x * n + c)) ≡ mean_at d w r n patch x y c)
    → HoldsPart format (w + 2 * r) (h + 2 * r) patch f u v
    → HoldsPart format w h dst (λ s t c. mean_of (window_side r * window_side r) (square_samples r f s t c)) u v
part_of_means format w h r d n patch dst f u v is_depth is_channels made held =
    HoldsPart-from format w h dst (λ s t c. mean_of (window_side r * window_side r) (square_samples r f s t c)) u v
    (λ x y c column row channel.
    let m = 2 * r + 1 in
    let same : sum_of m (λ i. sum_of m (λ j. sample_at (depth format) patch ((y + j) * ((w + 2 * r) * channels format) + ((x + i) * channels format + c)))) ≡ sum_of m (λ i. sum_of m (λ j. f (u + x + i) (v + y + j) c)) =
    sum_of-same m (λ i. sum_of m (λ j. sample_at (depth format) patch ((y + j) * ((w + 2 * r) * channels format) + ((x + i) * channels format + c)))) (λ i. sum_of m (λ j. f (u + x + i) (v + y + j) c))
    (λ i near. sum_of-same m (λ j. sample_at (depth format) patch ((y + j) * ((w + 2 * r) * channels format) + ((x + i) * channels format + c))) (λ j. f (u + x + i) (v + y + j) c)
    (λ j below.
    let across : u + (x + i) ≡ u + x + i = omega arith in
    let down : v + (y + j) ≡ v + y + j = omega arith in
    sample-held format (w + 2 * r) (h + 2 * r) patch f u v held (x + i) (y + j) c (omega arith) (omega arith) channel
    ∙ (λ t. f (across t) (down t) c))) in
    (λ t. sample_at (is_depth t) dst (y * (w * is_channels t) + (x * is_channels t + c)))
    ∙ made x y c column row (omega arith)
    ∙ (λ t. mean_at (sym is_depth t) w r (sym is_channels t) patch x y c)
    ∙ ap (mean_sum (m * m)) (same ∙ sym (sum_of_square r f (u + x) (v + y) c)))
