-- The samples of windows, one after another.
use Rattle.std.proofs.Common.{◌≡◌, ℕ, ◌+◌, ◌*◌, ◌/◌, ◌%◌, ◌<◌, List, [], ◌∷◌, ◌++◌, length, get_or, take, min, max, refl, ap, ◌∙◌, arith}
use Rattle.std.proofs.lemmas.List.{length-take, take_more}
use Rattle.std.proofs.lemmas.List.FromFn.{get_or-map-range_with_len}
use Rattle.model_images.specs.Image.{Image, column_of, row_of, sample_count}
use Rattle.pixel_formats.specs.declared.abyss.Abyss.{Abyss}
use Rattle.model_operations.specs.Windows.{max_of_all, min_of_all, min_with, read_before, window, window_side, window_square}

-- the sample of an index
pub window-at : (radius : ℕ) (image : Image) (policy : Abyss) (u v c i : ℕ) → i < window_side radius * window_side radius
    → get_or (window radius image policy u v c) i 0 ≡ read_before radius image policy (u + i % window_side radius) (v + i / window_side radius) c
window-at radius image policy u v c i inside =
    let r = window_square radius u v in
    let F : ℕ → ℕ = λ j. read_before radius image policy (column_of r 1 j) (row_of r 1 j) c in
    let one : i / 1 ≡ i = omega arith in
    get_or-map-range_with_len F 0 (sample_count r 1) i i 0 (omega arith) (omega arith)
    ∙ ap (λ (p : ℕ). read_before radius image policy (u + p % window_side radius) (v + p / window_side radius) c) one

max_sample-append : (xs : List ℕ) (x : ℕ) → max_of_all (xs ++ x ∷ []) ≡ max x (max_of_all xs)
max_sample-append [] x = refl
max_sample-append (y ∷ xs) x = omega (arith, max_sample-append xs x)

min_with-append : (first : ℕ) (xs : List ℕ) (x : ℕ) → min_with first (xs ++ x ∷ []) ≡ min x (min_with first xs)
min_with-append first [] x = refl
min_with-append first (y ∷ xs) x = omega (arith, min_with-append first xs x)

minimum-append : (xs : List ℕ) (x : ℕ) → 0 < length xs → min_of_all (xs ++ x ∷ []) ≡ min x (min_of_all xs)
minimum-append [] x some = absurd (omega arith)
minimum-append (y ∷ xs) x some = min_with-append y xs x

-- the largest and the smallest of the first samples and one more
pub max_sample-more : (xs : List ℕ) (i : ℕ) → i < length xs → max_of_all (take (i + 1) xs) ≡ max (get_or xs i 0) (max_of_all (take i xs))
max_sample-more xs i inside = ap max_of_all (take_more xs i 0 inside) ∙ max_sample-append (take i xs) (get_or xs i 0)

pub minimum-more : (xs : List ℕ) (i : ℕ) → 0 < i → i < length xs → min_of_all (take (i + 1) xs) ≡ min (get_or xs i 0) (min_of_all (take i xs))
minimum-more xs i some inside =
    ap min_of_all (take_more xs i 0 inside) ∙ minimum-append (take i xs) (get_or xs i 0) (omega (arith, length-take i xs))
