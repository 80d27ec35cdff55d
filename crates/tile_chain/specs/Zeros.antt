-- Tiles of zeros.
use Rattle.std.specs.Prelude.{◌≡◌, ℕ, List, All, length, replicate}

-- each of these tiles has nothing but zeros
abbrev pub AreZero : List (List ℕ) → Type 0
AreZero tiles = All (λ tile. tile ≡ replicate (length tile) 0) tiles
