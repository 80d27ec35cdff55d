-- The samples of planes, by the channel and the pixel.
use Rattle.std.specs.Prelude.{◌≡◌, ℕ, zero, suc, ◌*◌, ◌<◌, ◌≤◌}

-- of one plane
abbrev pub of_one : (ℕ → ℕ) → ℕ → ℕ → ℕ
of_one a channel = a

-- of two planes
abbrev pub of_two : (ℕ → ℕ) → (ℕ → ℕ) → ℕ → ℕ → ℕ
of_two a b zero = a
of_two a b (suc channel) = b

-- of three planes
abbrev pub of_three : (ℕ → ℕ) → (ℕ → ℕ) → (ℕ → ℕ) → ℕ → ℕ → ℕ
of_three a b c zero = a
of_three a b c (suc channel) = of_two b c channel

-- of four planes
abbrev pub of_four : (ℕ → ℕ) → (ℕ → ℕ) → (ℕ → ℕ) → (ℕ → ℕ) → ℕ → ℕ → ℕ
of_four a b c d zero = a
of_four a b c d (suc channel) = of_three b c d channel

-- one plane to each channel, of so many bytes each, and their bytes together
pub record PlaneSizes (channels of_one bytes : ℕ) : Type 0 where
  pub some_channels : 0 < channels
  pub few_channels : channels ≤ 4
  pub whole : bytes ≡ channels * of_one
