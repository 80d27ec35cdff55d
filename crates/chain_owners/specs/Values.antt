-- Finite maps whose keys are numbers.
use Rattle.std.specs.Prelude.{ℕ, map}
use Rattle.std.specs.Ordering.{nat_cmp}
use Rattle.std.specs.FinMap.{FinMap, entries, from_entries}

-- maps from names to values
abbrev pub Named : Type 0 → Type 0
Named X = FinMap nat_cmp X

-- the map with f of each value
unfoldable pub map_values : {X Y : Type 0} → (X → Y) → Named X → Named Y
map_values {X} {Y} f values = from_entries {R = nat_cmp} (map {B = ℕ × Y} (λ (e : ℕ × X). (e.0, f e.1)) (entries values))
