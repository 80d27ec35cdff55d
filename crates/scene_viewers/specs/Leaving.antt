-- Voids of cached pairs, damage by damage.
use Rattle.std.specs.Prelude.{ℕ, nat_lt, if◌then◌else◌, List}
use Rattle.model_states.specs.Cache.{Pair, all_voided}
use Rattle.model_states.specs.declared.damage.Damage.{Damage}

-- a list after a damage voids pairs of it, where its number is later
abbrev pub voided_later : {X : Type 0} → (X → Pair) → ℕ → List X → Damage → List X
voided_later key number list damage = if nat_lt number damage.number then all_voided key list damage.rects else list
