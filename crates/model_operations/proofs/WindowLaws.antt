-- What windows are, position by position.
use Rattle.std.proofs.Common.{◌≡◌, ℕ, zero, suc, ◌+◌, ◌-◌, ◌*◌, ◌<◌, ◌≤◌, inl, inr, true, ◌&&◌, cond, leb, List, [], ◌∷◌, length, get_or, min, refl, sym, ap, ◌∙◌, arith}
use Rattle.std.proofs.lemmas.Bool.{cases_lt}
use Rattle.std.proofs.lemmas.Bool.Decides.{nat_tests}
use Rattle.std.proofs.lemmas.List.FromFn.{get_or-map-range_with_len}
use Rattle.plane_rect.specs.Rectangle.{Inside}
use Rattle.model_images.proofs.Samples.{position_of_index, sample_index_below}
use Rattle.model_images.specs.Image.{Image, column_of, row_of, sample_count, sample_index}
use Rattle.model_images.proofs.Laws.{length-sampled}
use Rattle.model_images.specs.Abyss.{abyss_at, outside_at}
use Rattle.pixel_formats.specs.declared.abyss.Abyss.{Abyss}
use Rattle.model_operations.specs.Windows.{Has, max_of_all, min_of_all, min_with, read_before, window, window_side, window_square}

module _ (radius : ℕ) (image : Image) (policy : Abyss) (u v c : ℕ) where
  pub length-window : length (window radius image policy u v c) ≡ window_side radius * window_side radius
  length-window =
      length-sampled (window_square radius u v) 1 (λ s t k. read_before radius image policy s t c) ∙ omega arith

  pub window-sample : (s t : ℕ) → Inside s t (window_square radius u v)
      → get_or (window radius image policy u v c) (sample_index (window_square radius u v) 1 s t 0) 0 ≡ read_before radius image policy s t c
  window-sample s t inside =
      let r = window_square radius u v in
      let i = sample_index r 1 s t 0 in
      let known : 0 < 1 = omega arith in
      let p = position_of_index r 1 s t 0 inside known in
      let F : ℕ → ℕ = λ j. read_before radius image policy (column_of r 1 j) (row_of r 1 j) c in
      get_or-map-range_with_len F 0 (sample_count r 1) i i 0 (sample_index_below r 1 s t 0 inside known) (omega arith)
      ∙ ap (λ (n : ℕ). read_before radius image policy n (row_of r 1 i) c) p.0
      ∙ ap (λ (n : ℕ). read_before radius image policy s n c) p.1

pub read_before-position : (by : ℕ) (image : Image) (policy : Abyss) (u v c : ℕ) → read_before by image policy (u + by) (v + by) c ≡ abyss_at image policy u v c
read_before-position by image policy u v c =
    let inside : (leb by (u + by) && leb by (v + by)) ≡ true = grind (arith, nat_tests) in
    let column : u + by - by ≡ u = omega arith in
    let row : v + by - by ≡ v = omega arith in
    ap (λ b. cond b (abyss_at image policy (u + by - by) (v + by - by) c) (outside_at image policy (u + by - by) (v + by - by) c)) inside
    ∙ ap (λ (n : ℕ). abyss_at image policy n (v + by - by) c) column
    ∙ ap (λ (n : ℕ). abyss_at image policy u n c) row

pub max_sample-above : (xs : List ℕ) (k : ℕ) → k < length xs → get_or xs k 0 ≤ max_of_all xs
max_sample-above [] k h = absurd (omega arith)
max_sample-above (x ∷ xs) zero h = omega arith
max_sample-above (x ∷ xs) (suc k) h = omega (arith, max_sample-above xs k (omega arith))

minimum-with-below : (x : ℕ) (xs : List ℕ) → min_with x xs ≤ x
minimum-with-below x [] = omega arith
minimum-with-below x (y ∷ xs) = omega (arith, minimum-with-below x xs)

minimum-with-each : (x : ℕ) (xs : List ℕ) (k : ℕ) → k < length xs → min_with x xs ≤ get_or xs k 0
minimum-with-each x [] k h = absurd (omega arith)
minimum-with-each x (y ∷ xs) zero h = omega arith
minimum-with-each x (y ∷ xs) (suc k) h = omega (arith, minimum-with-each x xs k (omega arith))

pub minimum-below : (xs : List ℕ) (k : ℕ) → k < length xs → min_of_all xs ≤ get_or xs k 0
minimum-below [] k h = absurd (omega arith)
minimum-below (x ∷ xs) zero h = minimum-with-below x xs
minimum-below (x ∷ xs) (suc k) h = minimum-with-each x xs k (omega arith)

max_sample-of : (x : ℕ) (xs : List ℕ) → Has (x ∷ xs) (max_of_all (x ∷ xs))
max_sample-of x [] = (0, omega arith, omega arith)
max_sample-of x (y ∷ xs) = elim (cases_lt x (max_of_all (y ∷ xs))) [
  | inl more ↦ let rest = max_sample-of y xs in (suc rest.0, omega (arith, rest.1), rest.2 ∙ omega arith)
  | inr less ↦ (0, omega arith, omega arith)
]

pub max_sample-among : (xs : List ℕ) → 0 < length xs → Has xs (max_of_all xs)
max_sample-among [] some = absurd (omega arith)
max_sample-among (x ∷ xs) some = max_sample-of x xs

minimum-of : (x : ℕ) (xs : List ℕ) → Has (x ∷ xs) (min_with x xs)
minimum-of x [] = (0, omega arith, refl)
minimum-of x (y ∷ xs) = elim (cases_lt y (min_with x xs)) [
  | inl less ↦ (1, omega arith, omega arith)
  | inr more ↦ among (minimum-of x xs) (omega arith)
]
  where
    among : Has (x ∷ xs) (min_with x xs) → min y (min_with x xs) ≡ min_with x xs → Has (x ∷ y ∷ xs) (min y (min_with x xs))
    among (zero, h, e) same = (0, omega arith, e ∙ sym same)
    among (suc k, h, e) same = (suc (suc k), omega (arith, h), e ∙ sym same)

pub minimum-among : (xs : List ℕ) → 0 < length xs → Has xs (min_of_all xs)
minimum-among [] some = absurd (omega arith)
minimum-among (x ∷ xs) some = minimum-of x xs
