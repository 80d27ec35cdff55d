-- What is promised of a run, whatever it meets.
use Rattle.std.specs.Prelude.{◌≡◌, ℕ, ◌≤◌, ◌⊎◌, List, ◌++◌, drop, flat_map, length, min, take, Option, Some, None, []}
use Rattle.std.specs.Option.{option_map}
use Rattle.chain_owners.specs.Counts.{Rose}
use Rattle.model_runs.specs.Events.{Event, Puts, Writes}
use Rattle.model_runs.specs.World.{World, after_all, LeavesSome}
use Rattle.model_runs.specs.Ending.{IsRefusal, end_status}
use Rattle.model_runs.specs.Run.{Plan, watched_in}
use Rattle.model_runs.specs.State.{Numbers}
use Rattle.model_runs.specs.Swap.{Suffices, effects_to_stop, tiles_in}
use Rattle.model_runs.specs.Watching.{AreNumbers}

-- counts of I/O errors: of reads and writes of a shelf, of a swap, and of a sink
pub record Faults : Type 0 where
  pub reads : ℕ
  pub writes : ℕ
  pub swaps : ℕ
  pub puts : ℕ

-- no count falls
pub record NoneFalls (old new : Faults) : Type 0 where
  pub reads : old.reads ≤ new.reads
  pub writes : old.writes ≤ new.writes
  pub swaps : old.swaps ≤ new.swaps
  pub puts : old.puts ≤ new.puts

-- no count rose
pub record NoneRose (old new : Faults) : Type 0 where
  pub reads : ¬ Rose old.reads new.reads
  pub writes : ¬ Rose old.writes new.writes
  pub swaps : ¬ Rose old.swaps new.swaps
  pub puts : ¬ Rose old.puts new.puts

-- the bytes that were put between two texts of a sink, where it reports them
abbrev pub bytes_put : Option (List ℕ) → Option (List ℕ) → Option (List ℕ)
bytes_put (Some old) (Some new) = Some (drop (length old) new)
bytes_put None new = None
bytes_put old None = None

-- all texts of events, one after another
abbrev pub text_in : Event → List ℕ
text_in (Writes name bytes) = []
text_in (Puts text) = text

abbrev pub texts_in : List Event → List ℕ
texts_in events = flat_map text_in events

-- how many tiles a run may have brought into the swap up to its stop, where it put these bytes
abbrev pub tiles_of_run : Plan → Option (List ℕ) → ℕ
tiles_of_run plan put = tiles_in plan.options.cache (effects_to_stop put plan.effects)

-- a swap of so many blocks suffices for a run
abbrev pub SufficesFor : Plan → ℕ → Option (List ℕ) → Type 0
SufficesFor plan size put =
    Suffices (min plan.options.swap_blocks size) plan.options.resident (tiles_of_run plan put)

-- What a run of this plan leaves, by its status, where its frames show the commits of these numbers and the swap has so
-- many blocks. `Exposes` says that the swap exposes its blocks: then all files and texts are those of the plan's events,
-- or of the first of them. The texts are so in any case.
pub record Ran (Exposes : Type 0) (plan : Plan) (numbers : Numbers) (size : ℕ) (old new : World) (before after : Faults) (status : ℕ) : Type 0 where
  -- the frames' numbers are those that their watches may have
  pub meets : AreNumbers (watched_in plan.effects) numbers
  -- at 0 no line was refused, at 2 one was
  pub done : status ≡ 0 → plan.outcome.refused ≡ None
  pub refused : status ≡ 2 → IsRefusal plan.outcome.refused
  -- at both every event has come
  pub whole : Exposes → (status ≡ 0) ⊎ (status ≡ 2) → new ≡ after_all plan.outcome.events old
  pub texts : (status ≡ 0) ⊎ (status ≡ 2) → new.text ≡ option_map (λ text. text ++ texts_in plan.outcome.events) old.text
  -- at every status the first of the events have come, and perhaps a prefix of the next: of a file only at 4 and 7
  pub prefix : Exposes → LeavesSome ((status ≡ 4) ⊎ (status ≡ 7)) plan.outcome.events old new
  pub texts_prefix : (n : ℕ) × (new.text ≡ option_map (λ text. text ++ take n (texts_in plan.outcome.events)) old.text)
  -- 8 comes only where the swap doesn't suffice
  pub full : status ≡ 8 → ¬ SufficesFor plan size (bytes_put old.text new.text)
  -- where no count rose and the swap suffices, the run comes to its end or to the refused line, unless memory runs out
  pub complete : NoneRose before after → SufficesFor plan size (bytes_put old.text new.text) →
      (status ≡ 7) ⊎ (status ≡ end_status plan.outcome.refused)
