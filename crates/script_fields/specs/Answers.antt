-- What reading answers.
use Rattle.std.specs.Prelude.{◌≡◌, ℕ, ⊤, List, Result, Ok, Err}
use Rattle.script_fields.specs.declared.cause.ScriptCause.{ScriptCause}
use Rattle.script_fields.specs.declared.cause.LineAnswer.{LineAnswer}
use Rattle.script_fields.specs.declared.cause.LineAnswer.TheVariants.{Refused, NoMemory}
use Rattle.script_fields.specs.declared.cause.ScriptAnswer.{ScriptAnswer}
use Rattle.script_fields.specs.declared.cause.ScriptAnswer.TheVariants as script_answers

-- what is answered where this is read; running out of memory may come whatever is read
abbrev pub Answers : {A : Type 0} → Result A LineAnswer → Result A ScriptCause → Type 0
Answers (Ok value) read = read ≡ Ok value
Answers (Err (Refused cause)) read = read ≡ Err cause
Answers (Err NoMemory) read = ⊤

-- the same where a list is read into memory that was there before
abbrev pub AnswersList : {A : Type 0} → Result (Unit {0}) LineAnswer → List A → Result (List A) ScriptCause → Type 0
AnswersList (Ok done) items read = read ≡ Ok items
AnswersList (Err (Refused cause)) items read = read ≡ Err cause
AnswersList (Err NoMemory) items read = ⊤

-- the same, reported of a line
abbrev pub at_line : ℕ → LineAnswer → ScriptAnswer
at_line line (Refused cause) = script_answers.Refused line cause
at_line line NoMemory = script_answers.NoMemory
