-- Damages by the names of nodes.
use Rattle.std.specs.Prelude.{ℕ, Bool, List, map}
use Rattle.model_graphs.specs.Meanings.{Meanings}
use Rattle.model_states.specs.Damage.{Change, damage}
use Rattle.model_states.specs.Rectangles.{Rectangles}

-- the nodes of these names, each with its damage
abbrev pub damages_of : {Op : Type 0} → (Op → Op → Bool) → Meanings Op → Change Op → List (List ℕ) → Rectangles
damages_of same meanings change names = map (λ name. (name, damage same meanings change name)) names
