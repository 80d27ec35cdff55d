-- What stands when a run has ended, or a part of one: the files and the text.
use Rattle.std.specs.Prelude.{◌≡◌, ℕ, ◌⊎◌, List, [], ◌∷◌, ◌++◌, take, Option}
use Rattle.std.specs.Option.{option_map}
use Rattle.outside_io.specs.Files.{Files, filed}
use Rattle.model_runs.specs.Events.{Event, Writes, Puts}

-- the files of a shelf and the text that a sink was given, each where it is reported
pub record World : Type 0 where
  pub files : Option Files
  pub text : Option (List ℕ)

-- the world after an event
abbrev pub after : Event → World → World
after (Writes name bytes) world = record world { files = option_map (λ files. filed files name bytes) world.files }
after (Puts text) world = record world { text = option_map (λ written. written ++ text) world.text }

abbrev pub after_all : List Event → World → World
after_all [] world = world
after_all (event ∷ events) world = after_all events (after event world)

-- a prefix of an event has come; of a file only where files may be torn
abbrev pub IsPrefix : Type 0 → Event → World → World → Type 0
IsPrefix torn (Writes name bytes) old new = torn × ((n : ℕ) × (new ≡ after (Writes name (take n bytes)) old))
IsPrefix torn (Puts text) old new = (n : ℕ) × (new ≡ after (Puts (take n text)) old)

-- the first of the events have come, and perhaps a prefix of the next
abbrev pub LeavesSome : Type 0 → List Event → World → World → Type 0
LeavesSome torn [] old new = new ≡ old
LeavesSome torn (event ∷ events) old new =
    (new ≡ old) ⊎ (IsPrefix torn event old new ⊎ LeavesSome torn events (after event old) new)
