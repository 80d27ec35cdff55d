-- Sums of the bytes of files.
use Rattle.std.proofs.Common.{◌≡◌, ℕ, ◌+◌, ◌≤◌, List, [], sum, map, ap, ◌∙◌, arith}
use Rattle.std.specs.Prelude.{unwrap_or}
use Rattle.std.specs.List.{range_with_len}
use Rattle.std.proofs.lemmas.List.FromFn.{sum_by-map-range_with_len_more}
use Rattle.outside_io.specs.Files.{Files, file}
use Rattle.model_runs.specs.MadeJob.{render_file}

-- the sum of the bytes of a render's file
abbrev pub file_sum : Files → ℕ → ℕ
file_sum files number = sum (unwrap_or (file files (render_file number)) [])

-- the sum over so many renders from the first on
abbrev pub sum_to : Files → ℕ → ℕ
sum_to files count = sum (map (file_sum files) (range_with_len 0 count))

pub sums_more : (files : Files) (n total one : ℕ) (name : List ℕ) → total ≡ sum_to files n → name ≡ render_file n → one ≡ sum (unwrap_or (file files name) []) →
    total + one ≡ sum_to files (n + 1)
sums_more files n total one name before named is =
    let same : one ≡ file_sum files n = is ∙ ap (λ (w : List ℕ). sum (unwrap_or (file files w) [])) named in
    let more : sum_to files (n + 1) ≡ sum_to files n + file_sum files n = sum_by-map-range_with_len_more (λ k. k) (file_sum files) 0 n n (omega arith) in
    omega (arith, before, same, more)

pub sums_at_end : (files : Files) (count n total : ℕ) → n ≤ count → count ≤ n → total ≡ sum_to files n → total ≡ sum_to files count
sums_at_end files count n total below above is =
    let same : n ≡ count = omega (arith, below, above) in
    is ∙ ap (sum_to files) same
