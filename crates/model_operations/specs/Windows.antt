-- The squares of pixels around a position, read under a policy.
use Rattle.std.specs.Prelude.{◌≡◌, ◌<◌, ℕ, length, slice_index, ◌+◌, ◌-◌, ◌*◌, ◌/◌, ◌&&◌, nat_le, min, max, if◌then◌else◌, List, [], ◌∷◌, sum}
use Rattle.plane_rect.specs.Rectangle.{Rectangle}
use Rattle.model_images.specs.Image.{Image, sampled}
use Rattle.model_images.specs.Abyss.{abyss_at, outside_at}
use Rattle.pixel_formats.specs.declared.abyss.Abyss.{Abyss}

-- how many pixels a side a window has
abbrev pub window_side : ℕ → ℕ
window_side radius = 2 * radius + 1

-- The sample under a policy of a column and a row that count from so many positions left of and above the plane's
-- corner: before the corner no position is in a box.
abbrev pub read_before : ℕ → Image → Abyss → ℕ → ℕ → ℕ → ℕ
read_before by image policy u v c =
    if nat_le by u && nat_le by v
    then abyss_at image policy (u - by) (v - by) c
    else outside_at image policy (u - by) (v - by) c

-- the square around a position, in columns and rows that count so
abbrev pub window_square : ℕ → ℕ → ℕ → Rectangle
window_square radius u v =
    record { first_column = u; first_row = v; width = window_side radius; height = window_side radius }

-- the samples of a channel in the square around a position
abbrev pub window : ℕ → Image → Abyss → ℕ → ℕ → ℕ → List ℕ
window radius image policy u v c =
    sampled (window_square radius u v) 1 (λ u' v' _. read_before radius image policy u' v' c)

-- the mean of so many samples, rounded to the nearest
abbrev pub mean_of : ℕ → List ℕ → ℕ
mean_of n samples = (sum samples + n / 2) / n

-- the largest of some samples
abbrev pub max_of_all : List ℕ → ℕ
max_of_all [] = 0
max_of_all (sample ∷ samples) = max sample (max_of_all samples)

-- the smallest of a sample and some others
abbrev pub min_with : ℕ → List ℕ → ℕ
min_with first [] = first
min_with first (sample ∷ samples) = min sample (min_with first samples)

-- the smallest of some samples
abbrev pub min_of_all : List ℕ → ℕ
min_of_all [] = 0
min_of_all (sample ∷ samples) = min_with sample samples

-- a number is one of some samples
abbrev pub Has : List ℕ → ℕ → Type 0
Has samples n = (k : ℕ) × (k < length samples) × (slice_index samples k ≡ n)
