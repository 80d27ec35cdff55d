-- Samples of parts, by their numbers among the samples of their rows.
use Rattle.std.proofs.Common.{◌≡◌, ℕ, ◌+◌, ◌*◌, ◌<◌, ◌≤◌, List, sym, ap, ◌∙◌, subst, arith}
use Rattle.std.proofs.lemmas.Nat.{mul-add-lt}
use Rattle.std.proofs.Math.Nat.{mul-le-mul_right}
use Rattle.pixel_formats.specs.declared.format.Format.{Format}
use Rattle.pixel_formats.specs.Format.{channels, depth}
use Rattle.pixel_formats.specs.Sample.{sample_at}
use Rattle.area_kernels.specs.Parts.{HoldsPart}
use Rattle.area_kernels.specs.Sequences.{best}
use Rattle.area_kernels.proofs.CopiedSamples.{row_within}
use Rattle.area_kernels.proofs.Picking.{best-same}

-- the number of a sample by its row and its column, and by its pixel
sample_number : (w n x y c : ℕ) → y * (w * n) + (x * n + c) ≡ (y * w + x) * n + c
sample_number w n x y c = omega arith

pub sample-held : (format : Format) (w h : ℕ) (bytes : List ℕ) (f : ℕ → ℕ → ℕ → ℕ) (u v : ℕ) → HoldsPart format w h bytes f u v → (x y c : ℕ) → x < w → y < h → c < channels format
    → sample_at (depth format) bytes (y * (w * channels format) + (x * channels format + c)) ≡ f (u + x) (v + y) c
sample-held format w h bytes f u v held x y c column row channel =
    ap (sample_at (depth format) bytes) (sample_number w (channels format) x y c) ∙ held.samples x y c column row channel

pub HoldsPart-from : (format : Format) (w h : ℕ) (bytes : List ℕ) (f : ℕ → ℕ → ℕ → ℕ) (u v : ℕ)
    → ((x y c : ℕ) → x < w → y < h → c < channels format → sample_at (depth format) bytes (y * (w * channels format) + (x * channels format + c)) ≡ f (u + x) (v + y) c)
    → HoldsPart format w h bytes f u v
HoldsPart-from format w h bytes f u v is = record {
  samples = λ x y c column row channel.
      sym (ap (sample_at (depth format) bytes) (sample_number w (channels format) x y c)) ∙ is x y c column row channel;
}

-- the same samples by another function
pub HoldsPart-by : (format : Format) (w h : ℕ) (bytes : List ℕ) (f g : ℕ → ℕ → ℕ → ℕ) (u v : ℕ) → ((s t c : ℕ) → f s t c ≡ g s t c) → HoldsPart format w h bytes f u v → HoldsPart format w h bytes g u v
HoldsPart-by format w h bytes f g u v same held = record {
  samples = λ x y c column row channel. held.samples x y c column row channel ∙ same (u + x) (v + y) c;
}

-- a sample of a row of a part, and those of the columns after it as far as the part is grown
pub within_row : (n w r stride x c k : ℕ) → stride ≡ (w + 2 * r) * n → x < w → c < n → k ≤ 2 * r → x * n + c + k * n < stride
within_row n w r stride x c k is column channel few =
    omega (arith, mul-add-lt x n c w column channel, mul-le-mul_right n few)

-- one was picked of the samples of each column, and then one of those of each row
module _ (pick : ℕ → ℕ → ℕ) (n w h r stride side rows : ℕ) (s columns squares : ℕ → ℕ)
    (is_stride : stride ≡ (w + 2 * r) * n) (is_side : side ≡ 2 * r + 1) (is_rows : rows ≡ h + 2 * r)
    (of_columns : (i : ℕ) → i + side * stride < rows * stride + stride → columns i ≡ best pick side (λ k. s (i + k * stride)))
    (of_rows : (i : ℕ) → i + side * n < h * stride + n → squares i ≡ best pick side (λ k. columns (i + k * n)))
    (x y c : ℕ) (column : x < w) (row : y < h) (channel : c < n) where
  inside : (k : ℕ) → k ≤ 2 * r → y * stride + (x * n + c) + k * n < h * stride
  inside k few = omega (arith, within_row n w r stride x c k is_stride column channel few, row_within y h stride row)

  picked : squares (y * stride + (x * n + c)) ≡ best pick side (λ i. best pick side (λ j. s ((y + j) * stride + ((x + i) * n + c))))
  picked =
      let at = y * stride + (x * n + c) in
      let some : 0 < side = omega arith in
      let last = inside (2 * r) (omega arith) in
      of_rows at (omega (arith, last, ap (λ m. m * n) is_side))
      ∙ best-same pick side (λ k. columns (at + k * n)) (λ i. best pick side (λ j. s ((y + j) * stride + ((x + i) * n + c)))) some
      (λ k near.
      let few : k ≤ 2 * r = omega arith in
      of_columns (at + k * n) (omega (arith, inside k few, ap (λ m. m * stride) is_side, ap (λ m. m * stride) is_rows))
      ∙ best-same pick side (λ j. s (at + k * n + j * stride)) (λ j. s ((y + j) * stride + ((x + k) * n + c))) some (λ j _. ap s (omega arith)))

  pub squares_picked : squares (y * ((w + 2 * r) * n) + (x * n + c)) ≡ best pick (2 * r + 1) (λ i. best pick (2 * r + 1) (λ j. s ((y + j) * ((w + 2 * r) * n) + ((x + i) * n + c))))
  squares_picked =
      subst (λ m. squares (y * m + (x * n + c)) ≡ best pick (2 * r + 1) (λ i. best pick (2 * r + 1) (λ j. s ((y + j) * m + ((x + i) * n + c))))) is_stride
      (subst (λ m. squares (y * stride + (x * n + c)) ≡ best pick m (λ i. best pick m (λ j. s ((y + j) * stride + ((x + i) * n + c))))) is_side picked)

-- the samples of the squares where those of the part are known
pub best_of_part : (pick : ℕ → ℕ → ℕ) (format : Format) (w h r : ℕ) (bytes : List ℕ) (f : ℕ → ℕ → ℕ → ℕ) (u v : ℕ) → HoldsPart format (w + 2 * r) (h + 2 * r) bytes f u v
    → (x y c : ℕ) → x < w → y < h → c < channels format
    → best pick (2 * r + 1) (λ i. best pick (2 * r + 1) (λ j. sample_at (depth format) bytes ((y + j) * ((w + 2 * r) * channels format) + ((x + i) * channels format + c))))
    ≡ best pick (2 * r + 1) (λ i. best pick (2 * r + 1) (λ j. f (u + x + i) (v + y + j) c))
best_of_part pick format w h r bytes f u v held x y c column row channel =
    let d = depth format in
    let n = channels format in
    let some : 0 < 2 * r + 1 = omega arith in
    best-same pick (2 * r + 1) (λ i. best pick (2 * r + 1) (λ j. sample_at d bytes ((y + j) * ((w + 2 * r) * n) + ((x + i) * n + c))))
    (λ i. best pick (2 * r + 1) (λ j. f (u + x + i) (v + y + j) c)) some
    (λ i near. best-same pick (2 * r + 1) (λ j. sample_at d bytes ((y + j) * ((w + 2 * r) * n) + ((x + i) * n + c))) (λ j. f (u + x + i) (v + y + j) c) some
    (λ j below.
    let across : u + (x + i) ≡ u + x + i = omega arith in
    let down : v + (y + j) ≡ v + y + j = omega arith in
    sample-held format (w + 2 * r) (h + 2 * r) bytes f u v held (x + i) (y + j) c (omega arith) (omega arith) channel
    ∙ (λ t. f (across t) (down t) c)))

-- the copied samples of the squares are those of the result's part
pub part_picked : (pick : ℕ → ℕ → ℕ) (format : Format) (w h r d n stride : ℕ) (old patch dst : List ℕ) (f : ℕ → ℕ → ℕ → ℕ) (u v : ℕ)
    → depth format ≡ d → channels format ≡ n → stride ≡ (w + 2 * r) * n
    → ((x y c : ℕ) → x < w → y < h → c < n → sample_at d patch (y * ((w + 2 * r) * n) + (x * n + c))
    ≡ best pick (2 * r + 1) (λ i. best pick (2 * r + 1) (λ j. sample_at d old ((y + j) * ((w + 2 * r) * n) + ((x + i) * n + c)))))
    → ((y i : ℕ) → y < h → i < w * n → sample_at d dst (y * (w * n) + i) ≡ sample_at d patch (y * stride + i))
    → HoldsPart format (w + 2 * r) (h + 2 * r) old f u v
    → HoldsPart format w h dst (λ s t c. best pick (2 * r + 1) (λ i. best pick (2 * r + 1) (λ j. f (s + i) (t + j) c))) u v
part_picked pick format w h r d n stride old patch dst f u v is_depth is_channels is_stride squares copied held =
    HoldsPart-from format w h dst (λ s t c. best pick (2 * r + 1) (λ i. best pick (2 * r + 1) (λ j. f (s + i) (t + j) c))) u v
    (λ x y c column row channel.
    let within : c < n = omega arith in
    (λ t. sample_at (is_depth t) dst (y * (w * is_channels t) + (x * is_channels t + c)))
    ∙ copied y (x * n + c) row (omega (arith, mul-add-lt x n c w column within))
    ∙ (λ t. sample_at d patch (y * is_stride t + (x * n + c)))
    ∙ squares x y c column row within
    ∙ (λ t. best pick (2 * r + 1) (λ i. best pick (2 * r + 1) (λ j. sample_at (sym is_depth t) old ((y + j) * ((w + 2 * r) * sym is_channels t) + ((x + i) * sym is_channels t + c)))))
    ∙ best_of_part pick format w h r old f u v held x y c column row channel)
