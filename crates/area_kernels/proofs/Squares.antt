-- What is made of the samples of a square, and of its columns one after the other.
use Rattle.std.proofs.Common.{◌≡◌, ℕ, ◌+◌, ◌*◌, ◌/◌, ◌%◌, ◌<◌, ◌≤◌, max, min, length, get_or, List, sym, ◌∙◌, arith}
use Rattle.std.proofs.lemmas.Nat.{mod_below, div_below}
use Rattle.plane_rect.specs.Rectangle.{Inside}
use Rattle.model_images.specs.Image.{column_of, row_of, sample_index, sample_count}
use Rattle.model_operations.specs.Windows.{max_of_all, min_of_all, window_side, window_square}
use Rattle.model_operations.proofs.WindowLaws.{max_sample-above, max_sample-among, minimum-among, minimum-below}
use Rattle.model_images.proofs.Samples.{position_of_index, sample_index_below}
use Rattle.std.proofs.lemmas.List.FromFn.{get_or-map-range_with_len}
use Rattle.model_images.proofs.Laws.{length-sampled}
use Rattle.area_kernels.specs.Sequences.{best}
use Rattle.pixel_formats.specs.declared.format.Format.{Format}
use Rattle.area_kernels.specs.Parts.{HoldsPart, square_samples}
use Rattle.area_kernels.specs.declared.area.Area.{Area}
use Rattle.area_kernels.proofs.PartLaws.{HoldsPart-by}
use Rattle.area_kernels.proofs.Picking.{above_smallest, below_largest, largest_below, smallest_above}

module _ (radius : ℕ) (f : ℕ → ℕ → ℕ → ℕ) (u v c : ℕ) where
  abbrev side : ℕ
  side = window_side radius

  abbrev samples : List ℕ
  samples = square_samples radius f u v c

  length-samples : length samples ≡ side * side
  length-samples = length-sampled (window_square radius u v) 1 (λ s t _. f s t c) ∙ omega arith

  some_samples : 0 < length samples
  some_samples = omega (arith, length-samples)

  -- the sample of a column and a row of the square
  sample-inside : (i j : ℕ) → i < side → j < side → (n : ℕ) × (n < length samples) × (get_or samples n 0 ≡ f (u + i) (v + j) c)
  sample-inside i j column row =
      let r = window_square radius u v in
      let inside : Inside (u + i) (v + j) r = record { column = (omega arith, omega arith); row = (omega arith, omega arith) } in
      let n = sample_index r 1 (u + i) (v + j) 0 in
      let below = sample_index_below r 1 (u + i) (v + j) 0 inside (omega arith) in
      let p = position_of_index r 1 (u + i) (v + j) 0 inside (omega arith) in
      let F : ℕ → ℕ = λ k. f (column_of r 1 k) (row_of r 1 k) c in
      (n, omega (arith, below, length-samples), get_or-map-range_with_len F 0 (sample_count r 1) n n 0 below (omega arith) ∙ (λ t. f (p.0 t) (p.1 t) c))

  -- the column and the row in the square of a sample
  sample-at : (n : ℕ) → n < length samples → (i : ℕ) × (j : ℕ) × (i < side) × (j < side) × (get_or samples n 0 ≡ f (u + i) (v + j) c)
  sample-at n lt =
      let r = window_square radius u v in
      let below : n < sample_count r 1 = omega (arith, length-samples) in
      let F : ℕ → ℕ = λ k. f (column_of r 1 k) (row_of r 1 k) c in
      let some : 0 < side = omega arith in
      let square : n / 1 < side * side = omega arith in (
        n / 1 % side,
        n / 1 / side,
        mod_below (n / 1) side some,
        div_below (n / 1) side side some square,
        get_or-map-range_with_len F 0 (sample_count r 1) n n 0 below (omega arith),
      )

  -- the largest sample is the largest of those of the columns
  pub max_of_square : max_of_all samples ≡ best max side (λ i. best max side (λ j. f (u + i) (v + j) c))
  max_of_square =
      let of_columns : ℕ → ℕ = λ i. best max side (λ j. f (u + i) (v + j) c) in
      let some : 0 < side = omega arith in
      let among = max_sample-among samples some_samples in
      let at = sample-at among.0 among.1 in
      let above : max_of_all samples ≤ best max side of_columns =
      omega (
        arith,
        among.2,
        at.4,
        below_largest side at.1 (λ j. f (u + at.0) (v + j) c) at.3,
        below_largest side at.0 of_columns at.2,
      ) in
      let below : best max side of_columns ≤ max_of_all samples =
      largest_below side (max_of_all samples) of_columns some
      (λ i column. largest_below side (max_of_all samples) (λ j. f (u + i) (v + j) c) some
      (λ j row. let there = sample-inside i j column row in omega (arith, there.2, max_sample-above samples there.0 there.1))) in
      omega arith

  -- the smallest sample is the smallest of those of the columns
  pub min_of_square : min_of_all samples ≡ best min side (λ i. best min side (λ j. f (u + i) (v + j) c))
  min_of_square =
      let of_columns : ℕ → ℕ = λ i. best min side (λ j. f (u + i) (v + j) c) in
      let some : 0 < side = omega arith in
      let among = minimum-among samples some_samples in
      let at = sample-at among.0 among.1 in
      let below : best min side of_columns ≤ min_of_all samples =
      omega (
        arith,
        among.2,
        at.4,
        above_smallest side at.1 (λ j. f (u + at.0) (v + j) c) at.3,
        above_smallest side at.0 of_columns at.2,
      ) in
      let above : min_of_all samples ≤ best min side of_columns =
      smallest_above side (min_of_all samples) of_columns some
      (λ i column. smallest_above side (min_of_all samples) (λ j. f (u + i) (v + j) c) some
      (λ j row. let there = sample-inside i j column row in omega (arith, there.2, minimum-below samples there.0 there.1))) in
      omega arith

-- a part with the largest samples, by columns and of whole squares
pub HoldsPart-max : (format : Format) (area : Area) (bytes : List ℕ) (f : ℕ → ℕ → ℕ → ℕ) (u v : ℕ)
    → HoldsPart format area.width area.height bytes (λ s t c. best max (window_side area.radius) (λ i. best max (window_side area.radius) (λ j. f (s + i) (t + j) c))) u v
    → HoldsPart format area.width area.height bytes (λ s t c. max_of_all (square_samples area.radius f s t c)) u v
HoldsPart-max format area bytes f u v =
    HoldsPart-by format area.width area.height bytes (λ s t c. best max (window_side area.radius) (λ i. best max (window_side area.radius) (λ j. f (s + i) (t + j) c)))
    (λ s t c. max_of_all (square_samples area.radius f s t c)) u v (λ s t c. sym (max_of_square area.radius f s t c))

-- a part with the smallest samples, by columns and of whole squares
pub HoldsPart-min : (format : Format) (area : Area) (bytes : List ℕ) (f : ℕ → ℕ → ℕ → ℕ) (u v : ℕ)
    → HoldsPart format area.width area.height bytes (λ s t c. best min (window_side area.radius) (λ i. best min (window_side area.radius) (λ j. f (s + i) (t + j) c))) u v
    → HoldsPart format area.width area.height bytes (λ s t c. min_of_all (square_samples area.radius f s t c)) u v
HoldsPart-min format area bytes f u v =
    HoldsPart-by format area.width area.height bytes (λ s t c. best min (window_side area.radius) (λ i. best min (window_side area.radius) (λ j. f (s + i) (t + j) c)))
    (λ s t c. min_of_all (square_samples area.radius f s t c)) u v (λ s t c. sym (min_of_square area.radius f s t c))
