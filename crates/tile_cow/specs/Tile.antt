-- The bytes of a tile.
use Rattle.std.specs.Prelude.{ℕ, ◌+◌, ◌≤◌, List, ◌++◌, length, take, drop}

-- how many bytes a tile may have
abbrev pub IsTileLength : ℕ → Type 0
IsTileLength len = (1 ≤ len) × (len ≤ 65536)

-- the old bytes, with these in the range that begins at a position
abbrev pub overwritten : List ℕ → ℕ → List ℕ → List ℕ
overwritten old at bytes = take at old ++ bytes ++ drop (at + length bytes) old
