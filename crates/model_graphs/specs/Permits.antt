-- Permits, of which each serves to evaluate one tile.
use Rattle.std.specs.Prelude.{◌≡◌, ℕ, ◌+◌, Option, Some, None}

-- What a purse gives where `old` permits are left in it: none exactly where none is left, else one, and there is one fewer.
abbrev pub Takes : {Permit : Type 0} → ℕ → ℕ → Option Permit → Type 0
Takes old new None = (old ≡ 0) × (new ≡ 0)
Takes old new (Some permit) = old ≡ new + 1

-- so many permits were taken and spent
abbrev pub Spent : ℕ → ℕ → ℕ → Type 0
Spent old new count = new + count ≡ old
