-- What is read of words is in limits.
use Rattle.std.proofs.Common.{◌≡◌, ℕ, Bool, true, false, List, drop, Result, Ok, Err, refl}
use Rattle.script_fields.specs.Fields.{◌>>=◌, fields_of_words, numbers_fit, passed}
use Rattle.script_fields.specs.declared.cause.ScriptCause.{ScriptCause}
use Rattle.script_fields.specs.declared.cause.ScriptCause.TheVariants as causes
use Rattle.script_fields.specs.declared.field.Field.{Field}
use Rattle.script_read.specs.Commands.{command_of}
use Rattle.script_read.specs.Forms.{form_of, is_counted, kinds_for}
use Rattle.script_read.specs.Limits.{IsInLimits}
use Rattle.script_read.specs.Script.{command_by, command_of_words}
use Rattle.script_read.specs.declared.command.Command.{Command}
use Rattle.script_read.specs.declared.forms.Form.{Form}
use Rattle.script_read.proofs.FormLaws.{Made, made-fields}

-- a command that is read is in limits
abbrev pub IsLimited : Result Command ScriptCause → Type 0
IsLimited (Ok command) = IsInLimits command
IsLimited (Err cause) = Unit {0}

limited-made : (form : Form) (read : Result Command ScriptCause) → Made form read → IsLimited read
limited-made form (Ok command) made = made.0
limited-made form (Err cause) made = tt

module _ (form : Form) (words : List (List ℕ)) where
  by_fields : is_counted form words ≡ true → (read : Result (List Field) ScriptCause) → fields_of_words (kinds_for form words) words ≡ read
      → IsLimited (read >>= λ fields. command_of form fields)
  by_fields counted (Ok fields) are = limited-made form (command_of form fields) (made-fields form words fields counted are)
  by_fields counted (Err cause) are = tt

  by_numbers : is_counted form words ≡ true → (fit : Bool)
      → IsLimited (passed {A = Unit {0}} fit causes.Number tt >>= λ _. fields_of_words (kinds_for form words) words >>= λ fields. command_of form fields)
  by_numbers counted true = by_fields counted (fields_of_words (kinds_for form words) words) refl
  by_numbers counted false = tt

  by_count : (counted : Bool) → is_counted form words ≡ counted
      → IsLimited (passed {A = Unit {0}} counted causes.Words tt >>= λ _. passed {A = Unit {0}} (numbers_fit (kinds_for form words) words) causes.Number tt >>= λ _. fields_of_words (kinds_for form words) words >>= λ fields. command_of form fields)
  by_count true counted = by_numbers counted (numbers_fit (kinds_for form words) words)
  by_count false other = tt

  command_by-limited : IsLimited (command_by form words)
  unfolding command_by
  command_by-limited = by_count (is_counted form words) refl

by_form : (words : List (List ℕ)) (form : Result Form ScriptCause) → IsLimited (form >>= λ f. command_by f words)
by_form words (Ok form) = command_by-limited form words
by_form words (Err cause) = tt

limited-words : (words : List (List ℕ)) → IsLimited (command_of_words words)
unfolding command_of_words
limited-words words = by_form (drop 1 words) (form_of words)

is_limited : (read : Result Command ScriptCause) (command : Command) → IsLimited read → read ≡ Ok command → IsInLimits command
is_limited read command limited is = rw is at limited

pub command_in_limits : (words : List (List ℕ)) (command : Command) → command_of_words words ≡ Ok command → IsInLimits command
command_in_limits words command is = is_limited (command_of_words words) command (limited-words words) is
