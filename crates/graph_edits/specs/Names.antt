-- Names by their positions.
use Rattle.std.specs.Prelude.{ℕ, List, length, position, unwrap_or}
use Rattle.std.specs.Str.{bytes_eq}

-- the position of a name, and the number of names where it is not there
abbrev pub name_index : List (List ℕ) → List ℕ → ℕ
name_index names name = unwrap_or (position (λ other. bytes_eq other name) names) (length names)
