-- Sixteen samples side by side, the lanes of a vector.
use Rattle.std.specs.Prelude.{◌≡◌, ℕ, ◌+◌, ◌<◌, List, length, slice_index}

-- the sixteen lanes hold these samples
abbrev pub Hold : (ℕ → ℕ) → (ℕ → ℕ) → Type 0
Hold lanes samples = (j : ℕ) → j < 16 → lanes j ≡ samples j

-- two vectors hold these samples one after the other
abbrev pub HoldTwo : (ℕ → ℕ) → (ℕ → ℕ) → (ℕ → ℕ) → Type 0
HoldTwo lanes second samples = Hold lanes samples × Hold second (λ j. samples (16 + j))

-- three vectors hold these samples one after the other
abbrev pub HoldThree : (ℕ → ℕ) → (ℕ → ℕ) → (ℕ → ℕ) → (ℕ → ℕ) → Type 0
HoldThree lanes second third samples = Hold lanes samples × Hold second (λ j. samples (16 + j)) × Hold third (λ j. samples (32 + j))

-- four vectors hold these samples one after the other
abbrev pub HoldFour : (ℕ → ℕ) → (ℕ → ℕ) → (ℕ → ℕ) → (ℕ → ℕ) → (ℕ → ℕ) → Type 0
HoldFour lanes second third fourth samples =
    Hold lanes samples × Hold second (λ j. samples (16 + j)) × Hold third (λ j. samples (32 + j)) × Hold fourth (λ j. samples (48 + j))

-- sixteen numbers below a bound
pub record AreLanes (bound : ℕ) (lanes : List ℕ) : Type 0 where
  pub long : length lanes ≡ 16
  pub below : (j : ℕ) → slice_index lanes j < bound
