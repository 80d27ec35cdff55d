-- What reading a text answers.
use Rattle.std.specs.Prelude.{◌≡◌, ℕ, ⊤, List, Result, Ok, Err}
use Rattle.std.specs.Global.{Vec}
use Rattle.script_fields.specs.declared.cause.ScriptCause.{ScriptCause}
use Rattle.script_fields.specs.declared.cause.ScriptAnswer.{ScriptAnswer}
use Rattle.script_fields.specs.declared.cause.ScriptAnswer.TheVariants.{Refused, NoMemory}
use Rattle.script_read.specs.declared.command.Line.{Line}

-- what is answered where this is read of a text; running out of memory may come whatever is read
abbrev pub Reads : Result (Vec Line) ScriptAnswer → Result (List Line) (ℕ × ScriptCause) → Type 0
Reads (Ok lines) read = read ≡ Ok lines.items
Reads (Err (Refused line cause)) read = read ≡ Err (line, cause)
Reads (Err NoMemory) read = ⊤
