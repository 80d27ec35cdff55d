-- What a run is to do: files to be written and texts to be put, one after another, up to a line that is refused.
use Rattle.std.specs.Prelude.{ℕ, List, [], ◌∷◌, ◌++◌, Option, Some, None}
use Rattle.outside_io.specs.Files.{Files, filed}
use Rattle.model_runs.specs.Texts.{refusal_text}
use Rattle.model_runs.specs.declared.cause.Cause.{Cause}

-- a file that is made to hold these bytes, or a text that is put out
pub data Event : Type 0 where
  Writes : List ℕ → List ℕ → Event
  Puts : List ℕ → Event

pub record Refusal : Type 0 where
  pub line : ℕ
  pub cause : Cause

-- the events in their order, the text of a refusal among them, and the line that is refused
pub record Outcome : Type 0 where
  pub events : List Event
  pub refused : Option Refusal

-- events, and no line that is refused
abbrev pub events_alone : List Event → Outcome
events_alone events = record { events = events; refused = None }

-- nothing is to be done
abbrev pub nothing : Outcome
nothing = events_alone []

-- a line is refused, and known so
abbrev pub refusal : ℕ → Cause → Outcome
refusal line cause =
    record { events = Puts (refusal_text line cause) ∷ []; refused = Some (record { line = line; cause = cause }) }

-- these events, and then what is to be done after them
abbrev pub then_do : List Event → Outcome → Outcome
then_do events rest = record { events = events ++ rest.events; refused = rest.refused }

-- the files, after an event
abbrev pub files_after : Event → Files → Files
files_after (Writes name bytes) files = filed files name bytes
files_after (Puts text) files = files
