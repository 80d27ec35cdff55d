-- What a part of a run leaves that uses a sink alone.
use Rattle.std.specs.Prelude.{ℕ, List, Option, Result}
use Rattle.outside_io.specs.Files.{Files}
use Rattle.model_runs.specs.Events.{Outcome}
use Rattle.model_runs.specs.Ending.{Leaves}
use Rattle.model_runs.specs.declared.ending.End.{End}

-- by the text that the sink was given, whatever files the shelf has
abbrev pub SinkLeaves : {Sink : Type 0} → (Sink → Option (List ℕ)) → Outcome → Result (Unit {0}) End → Sink → Sink → Type 0
SinkLeaves written outcome result old new =
    (files : Option Files) → Leaves outcome result (record { files = files; text = written old })
    (record { files = files; text = written new })
