-- The lengths of the tests' tiles.
use Rattle.std.specs.Prelude.{◌≡◌, ℕ, List}
use Rattle.std.specs.List.{AllByRecursion}
use Rattle.node_cache.specs.Stores.{Sized}

-- each tile has this many bytes
abbrev pub HaveLength : ℕ → List Sized → Type 0
HaveLength len sizes = AllByRecursion (λ (sized : Sized). sized.length ≡ len) sizes
