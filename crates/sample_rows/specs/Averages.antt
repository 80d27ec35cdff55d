-- Rows of means.
use Rattle.std.specs.Prelude.{◌≡◌, ℕ, ◌+◌, ◌*◌, ◌/◌, ◌<◌, List, length}
use Rattle.pixel_formats.specs.Average.{mean_of_four}
use Rattle.pixel_formats.specs.Row.{sample_at}

-- Each pixel of n samples is the mean of two neighbours of the one row and the two of the other.
abbrev pub Averages : ℕ → ℕ → List ℕ → List ℕ → List ℕ → Type 0
Averages n depth up down dst =
    (k i : ℕ) → k < length dst / (n * depth) → i < n → sample_at depth dst (k * n + i)
    ≡ mean_of_four (sample_at depth up (k * (2 * n) + i)) (sample_at depth up (k * (2 * n) + (n + i)))
    (sample_at depth down (k * (2 * n) + i)) (sample_at depth down (k * (2 * n) + (n + i)))
