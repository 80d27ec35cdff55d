-- The bytes of a rectangle by its rows.
use Rattle.std.proofs.Common.{◌≡◌, ℕ, ◌+◌, ◌*◌, ◌/◌, ◌%◌, ◌<◌, List, [], ◌++◌, map, sym, ap, ◌∙◌, arith}
use Rattle.std.specs.List.{range_with_len, flat_map}
use Rattle.std.proofs.lemmas.Grind.{flat_map-append}
use Rattle.std.proofs.lemmas.Nat.{div-mul-add, mod-mul-add, div_below, mod_below, div-add-mod'}
use Rattle.std.proofs.Math.Nat.{mod-eq_of_lt, div-eq_of_lt}
use Rattle.plane_rect.specs.Rectangle.{Rectangle}
use Rattle.pixel_formats.specs.Format.{channels, depth}
use Rattle.model_images.specs.Image.{Image, sampled, sample_count, column_of, row_of}
use Rattle.model_images.specs.Raw.{sample_bytes}
use Rattle.model_images.proofs.Ranges.{map-range-append, map-range-equal}
use Rattle.model_images.proofs.Samples.{position_inside}
use Rattle.pixel_formats.specs.declared.abyss.Abyss.{Abyss}
use Rattle.model_images.specs.Abyss.{abyss_at, raw_with}
use Rattle.model_images.specs.Rows.{first_rows, row_below}

-- the position and the channel of a sample of the row below k rows
module _ (r : Rectangle) (n k i : ℕ) (below : i < sample_count (row_below r k) n) where
  some : 0 < n
  some = let there = position_inside (row_below r k) n i below in omega (arith, there.1)

  -- which position of the row
  position_below : i / n < r.width
  position_below = div_below i n r.width some (omega arith)

  split : sample_count (first_rows r k) n + i ≡ (k * r.width + i / n) * n + i % n
  split = omega (arith, div-add-mod' i n)

  position : (sample_count (first_rows r k) n + i) / n ≡ k * r.width + i / n
  position = ap (λ (m : ℕ). m / n) split ∙ div-mul-add (k * r.width + i / n) n (i % n) (mod_below i n some)

  channel-below : (sample_count (first_rows r k) n + i) % n ≡ i % n
  channel-below = ap (λ (m : ℕ). m % n) split ∙ mod-mul-add (k * r.width + i / n) n (i % n) (mod_below i n some)

  column-below : column_of (first_rows r (k + 1)) n (sample_count (first_rows r k) n + i) ≡ column_of (row_below r k) n i
  column-below =
      ap (λ (m : ℕ). r.first_column + m % r.width) position
      ∙ ap (λ (m : ℕ). r.first_column + m) (mod-mul-add k r.width (i / n) position_below ∙ sym (mod-eq_of_lt position_below))

  row-below : row_of (first_rows r (k + 1)) n (sample_count (first_rows r k) n + i) ≡ row_of (row_below r k) n i
  row-below =
      let none : i / n / r.width ≡ 0 = div-eq_of_lt position_below in
      ap (λ (m : ℕ). r.first_row + m / r.width) position
      ∙ ap (λ (m : ℕ). r.first_row + m) (div-mul-add k r.width (i / n) position_below)
      ∙ omega (arith, none)

pub sampled-row : (r : Rectangle) (n k : ℕ) (f : ℕ → ℕ → ℕ → ℕ) →
    sampled (first_rows r (k + 1)) n f ≡ sampled (first_rows r k) n f ++ sampled (row_below r k) n f
sampled-row r n k f =
    let before = sample_count (first_rows r k) n in
    let here = sample_count (row_below r k) n in
    let F : ℕ → ℕ = λ i. f (column_of (first_rows r (k + 1)) n i) (row_of (first_rows r (k + 1)) n i) (i % n) in
    let G : ℕ → ℕ = λ i. f (column_of (row_below r k) n i) (row_of (row_below r k) n i) (i % n) in
    let all : sample_count (first_rows r (k + 1)) n ≡ before + here = omega arith in
    let same : (i : ℕ) → i < here → F (before + i) ≡ G i =
    λ i below.
    ap (λ (u : ℕ). f u (row_of (first_rows r (k + 1)) n (before + i)) ((before + i) % n)) (column-below r n k i below)
    ∙ ap (λ (v : ℕ). f (column_of (row_below r k) n i) v ((before + i) % n)) (row-below r n k i below)
    ∙ ap (λ (c : ℕ). f (column_of (row_below r k) n i) (row_of (row_below r k) n i) c) (channel-below r n k i below) in
    ap (λ (m : ℕ). map F (range_with_len 0 m)) all
    ∙ map-range-append F before here
    ∙ ap (λ (xs : List ℕ). map F (range_with_len 0 before) ++ xs) (map-range-equal (λ i. F (before + i)) G here same)

pub raw_with-row : (image : Image) (policy : Abyss) (r : Rectangle) (k : ℕ) →
    raw_with image policy (first_rows r (k + 1)) ≡ raw_with image policy (first_rows r k) ++ raw_with image policy (row_below r k)
unfolding raw_with
raw_with-row image policy r k =
    let n = channels image.format in
    let bytes = sample_bytes (depth image.format) in
    ap (flat_map bytes) (sampled-row r n k (abyss_at image policy))
    ∙ flat_map-append bytes (sampled (first_rows r k) n (abyss_at image policy)) (sampled (row_below r k) n (abyss_at image policy))

pub raw_with-no_row : (image : Image) (policy : Abyss) (r : Rectangle) → raw_with image policy (first_rows r 0) ≡ []
unfolding raw_with
raw_with-no_row image policy r =
    let n = channels image.format in
    let F : ℕ → ℕ = λ i. abyss_at image policy (column_of (first_rows r 0) n i) (row_of (first_rows r 0) n i) (i % n) in
    let none : sample_count (first_rows r 0) n ≡ 0 = omega arith in
    ap (λ (m : ℕ). flat_map (sample_bytes (depth image.format)) (map F (range_with_len 0 m))) none
