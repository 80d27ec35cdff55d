-- Samples in a row of bytes, and what is made of single ones.
use Rattle.std.specs.Prelude.{ℕ, zero, suc, ◌+◌, ◌-◌, ◌*◌, ◌/◌, ◌^◌, List, slice_index, min, nat_le, if◌then◌else◌}

-- the number that so many bytes of a row spell, from a position on, the least significant first
abbrev pub sample_from : ℕ → List ℕ → ℕ → ℕ
sample_from zero row at = 0
sample_from (suc zero) row at = slice_index row at
sample_from (suc (suc n)) row at = slice_index row at + 256 * sample_from (suc n) row (at + 1)

-- sample number i of a row whose samples have so many bytes
abbrev pub sample_at : ℕ → List ℕ → ℕ → ℕ
sample_at zero row i = 0
sample_at (suc zero) row i = slice_index row i
sample_at (suc (suc n)) row i = sample_from (suc (suc n)) row (suc (suc n) * i)

-- the largest sample of so many bytes
abbrev pub max_sample_of : ℕ → ℕ
max_sample_of bytes = 256 ^ bytes - 1

-- the sum of two samples, and the largest sample where the sum is greater
abbrev pub added : ℕ → ℕ → ℕ → ℕ
added max_sample a b = min max_sample (a + b)

-- the part of a sample that a weight up to the largest sample leaves, rounded to the nearest
abbrev pub scaled_by : ℕ → ℕ → ℕ → ℕ
scaled_by max_sample sample weight = (sample * weight + max_sample / 2) / max_sample

-- the cap for a color that reaches the threshold, and 0 for one below it
abbrev pub thresholded : ℕ → ℕ → ℕ → ℕ
thresholded threshold cap color = if nat_le threshold color then cap else 0

-- the mean of four samples, rounded to the nearest and a half upwards
abbrev pub mean_of_four : ℕ → ℕ → ℕ → ℕ → ℕ
mean_of_four a b c d = (a + b + c + d + 2) / 4

-- the mean of three samples, rounded to the nearest
abbrev pub mean_of_three : ℕ → ℕ → ℕ → ℕ
mean_of_three a b c = (a + b + c + 1) / 3

-- a sample whose largest is `from` where the largest is `to`, rounded to the nearest
abbrev pub rescaled_to : ℕ → ℕ → ℕ → ℕ
rescaled_to from to sample = if nat_le from to then sample * (to / from) else (sample * to + from / 2) / from

-- a sample of the one depth at the other
abbrev pub rescaled : ℕ → ℕ → ℕ → ℕ
rescaled from to sample = rescaled_to (max_sample_of from) (max_sample_of to) sample

-- the fraction that a factor of samples of a depth counts: 65,536 for each level of a sample
abbrev pub unit_of : ℕ → ℕ
unit_of depth = 65536 * 256 ^ depth
