-- The script that a text is: the commands of its lines, or the first line that has a cause with the lowest of its
-- causes.
use Rattle.std.specs.Prelude.{ℕ, ◌+◌, ◌==◌, nat_le, Bool, true, false, if◌then◌else◌, List, [], ◌∷◌, drop, length, Option, Some, None, Result, Ok, Err}
use Rattle.pixel_formats.specs.Limits.{max_line_bytes, max_lines}
use Rattle.script_words.specs.Lines.{is_text, lines_of}
use Rattle.script_words.specs.Words.{words_of}
use Rattle.script_read.specs.Commands.{command_of}
use Rattle.script_read.specs.Forms.{form_of, is_counted, kinds_for}
use Rattle.script_fields.specs.Fields.{◌>>=◌, fields_of_words, numbers_fit, passed}
use Rattle.script_fields.specs.declared.cause.LineAnswer.{LineAnswer}
use Rattle.script_fields.specs.declared.cause.LineAnswer.TheVariants.{Refused}
use Rattle.script_fields.specs.declared.cause.ScriptCause.{ScriptCause}
use Rattle.script_fields.specs.declared.cause.ScriptCause.TheVariants as causes
use Rattle.script_fields.specs.declared.kind.Kind.{Kind}
use Rattle.script_read.specs.declared.command.Command.{Command}
use Rattle.script_read.specs.declared.command.Command.TheVariants as commands
use Rattle.script_read.specs.declared.command.Line.{Line}
use Rattle.script_read.specs.declared.forms.Form.{Form}
use Rattle.script_read.specs.declared.reader.ReadLine.{ReadLine}

-- ---- one line

-- why words aren't read as fields: a number is reported before all else
abbrev pub number_or : List Kind → List (List ℕ) → LineAnswer → LineAnswer
number_or kinds words answer = if numbers_fit kinds words then answer else Refused causes.Number

-- the command of the words after the first, of a line of this form
unfoldable pub command_by : Form → List (List ℕ) → Result Command ScriptCause
command_by form words = do
  _ ← passed {A = Unit {0}} (is_counted form words) causes.Words tt
  _ ← passed {A = Unit {0}} (numbers_fit (kinds_for form words) words) causes.Number tt
  fields ← fields_of_words (kinds_for form words) words
  command_of form fields

-- the command of words
unfoldable pub command_of_words : List (List ℕ) → Result Command ScriptCause
command_of_words words = form_of words >>= λ form. command_by form (drop 1 words)

-- a word that begins with `#`
abbrev pub begins_comment : List ℕ → Bool
begins_comment [] = false
begins_comment (byte ∷ bytes) = byte == 35

-- no words, or those of a comment
abbrev pub is_silent : List (List ℕ) → Bool
is_silent [] = true
is_silent (word ∷ words) = begins_comment word

-- the command of words, where they are neither none nor those of a comment
unfoldable pub spoken : List (List ℕ) → Result (Option Command) ScriptCause
spoken words = if is_silent words then Ok None else (command_of_words words >>= λ command. Ok (Some command))

-- the command of the line of a number, where it has one
unfoldable pub command_in : ℕ → List ℕ → Result (Option Command) ScriptCause
command_in number line = do
  _ ← passed {A = Unit {0}} (is_text line) causes.NotAscii tt
  _ ← passed {A = Unit {0}} (nat_le (length line) max_line_bytes) causes.LineTooLong tt
  _ ← passed {A = Unit {0}} (nat_le number max_lines) causes.TooManyLines tt
  spoken (words_of line)

-- ---- watches

-- The number of the line whose watch is open after a command, of that which is open before it: none begins inside
-- another, and none ends where none is open.
abbrev pub open_after : ℕ → Option ℕ → Command → Result (Option ℕ) ScriptCause
open_after number None (commands.Watch name rect viewers frames prefix) = Ok (Some number)
open_after number (Some line) (commands.Watch name rect viewers frames prefix) = Err causes.Order
open_after number None commands.EndWatch = Err causes.Order
open_after number (Some line) commands.EndWatch = Ok None
open_after number watching command = Ok watching

-- the same after a line that may have no command
abbrev pub open_past : ℕ → Option ℕ → Option Command → Result (Option ℕ) ScriptCause
open_past number watching None = Ok watching
open_past number watching (Some command) = open_after number watching command

-- the command of a line, and the watch that is open after it
unfoldable pub step_of : ℕ → Option ℕ → List ℕ → Result ReadLine ScriptCause
step_of number watching line = do
  command ← command_in number line
  watching ← open_past number watching command
  Ok (record { command = command; watching = watching })

-- ---- all lines

-- the first line that has a cause, and the lowest of its causes
abbrev pub Refusal : Type 0
Refusal = ℕ × ScriptCause

-- the command of a line before those after it
abbrev pub before : ℕ → Option Command → Result (List Line) Refusal → Result (List Line) Refusal
before number None read = read
before number (Some command) (Ok lines) = Ok (record { number = number; command = command } ∷ lines)
before number (Some command) (Err refusal) = Err refusal

-- what is read from a line on, where this is read of the line, and this after it
abbrev pub from_step : ℕ → Result ReadLine ScriptCause → (Option ℕ → Result (List Line) Refusal) → Result (List Line) Refusal
from_step number (Ok step) remaining = before number step.command (remaining step.watching)
from_step number (Err cause) remaining = Err (number, cause)

-- the end of the text: a watch that is still open is reported of its own line
abbrev pub ended : Option ℕ → Result (List Line) Refusal
ended None = Ok []
ended (Some line) = Err (line, causes.Order)

-- what is read of lines from a number on, where that watch is open
abbrev pub script_from : ℕ → Option ℕ → List (List ℕ) → Result (List Line) Refusal
script_from number watching [] = ended watching
script_from number watching (line ∷ lines) =
    from_step number (step_of number watching line) (λ watching. script_from (number + 1) watching lines)

-- what is read of a text
unfoldable pub script_of : List ℕ → Result (List Line) Refusal
script_of text = script_from 1 None (lines_of text)
