-- How much of a swap suffices for a run.
use Rattle.std.specs.Prelude.{ℕ, suc, ◌+◌, ◌-◌, ◌≤◌, ◌⊎◌, nat_lt, if◌then◌else◌, List, [], ◌∷◌, length, map, min, sum, take, Option, Some, None}
use Rattle.model_buffers.specs.Counts.{RoomFor}
use Rattle.model_runs.specs.Events.{Event, Puts, Writes}
use Rattle.model_runs.specs.Run.{applied_in}
use Rattle.model_runs.specs.State.{Effect}

-- how many bytes of text events put
abbrev pub text_length : Event → ℕ
text_length (Writes name bytes) = 0
text_length (Puts text) = length text

abbrev pub texts_length : List Event → ℕ
texts_length events = sum (map text_length events)

-- How many effects there are up to the first whose texts are not wholly among so many bytes, and with it: all where
-- each one's are.
abbrev pub effects_shown : ℕ → List Effect → ℕ
effects_shown written [] = 0
effects_shown written (effect ∷ effects) =
    if nat_lt written (texts_length effect.events) then 1
    else suc (effects_shown (written - texts_length effect.events) effects)

-- the effects up to the stop of a run: the first whose texts were not put wholly, where the bytes that were put are
-- known, else the last
abbrev pub effects_to_stop : Option (List ℕ) → List Effect → List Effect
effects_to_stop None effects = effects
effects_to_stop (Some written) effects = take (effects_shown (length written) effects) effects

-- how many tiles effects may bring into the swap, where the cache holds so many tiles of nodes
abbrev pub tiles_in : ℕ → List Effect → ℕ
tiles_in capacity effects = sum (map (λ (effect : Effect). effect.tiles) effects) + min capacity (applied_in effects) + 1

-- A swap of so many blocks suffices for so many tiles, of which so many may be resident: it has room for them all, or
-- they are all resident.
abbrev pub Suffices : ℕ → ℕ → ℕ → Type 0
Suffices blocks resident tiles = RoomFor tiles blocks ⊎ (tiles ≤ resident)
