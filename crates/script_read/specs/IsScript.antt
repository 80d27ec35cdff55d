-- The lines that are a script's.
use Rattle.std.specs.Prelude.{ℕ, ◌+◌, ◌≡◌, ◌≤◌, List, [], ◌∷◌, Option, None, Result, Ok, Err}
use Rattle.script_read.specs.Limits.{IsInLimits}
use Rattle.script_read.specs.Script.{open_after}
use Rattle.pixel_formats.specs.Limits.{max_lines}
use Rattle.script_fields.specs.declared.cause.ScriptCause.{ScriptCause}
use Rattle.script_read.specs.declared.command.Line.{Line}

-- a command may be the next where that watch is open, and so may what is after it
abbrev pub MayContinue : Result (Option ℕ) ScriptCause → (Option ℕ → Type 0) → Type 0
MayContinue (Ok watching) After = After watching
MayContinue (Err cause) After = ⊥

-- Lines that may follow from a number on where that watch is open: their numbers rise, their commands are in their
-- limits, and each watch ends before the next begins.
abbrev pub MayFollow : ℕ → Option ℕ → List Line → Type 0
MayFollow number watching [] = watching ≡ None
MayFollow number watching (line ∷ lines) =
    (number ≤ line.number) × (line.number ≤ max_lines) × IsInLimits line.command
    × MayContinue (open_after line.number watching line.command) (λ watching. MayFollow (line.number + 1) watching lines)

-- the lines are a script's
abbrev pub IsScript : List Line → Type 0
IsScript lines = MayFollow 1 None lines
