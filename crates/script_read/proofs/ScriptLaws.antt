-- Reading one line after another.
use Rattle.std.proofs.Common.{◌≡◌, ℕ, ◌+◌, ◌≤◌, nat_le, List, [], ◌∷◌, ◌++◌, true, Option, Some, None, Result, Ok, Err, IfSome, length, refl, sym, ap, ◌∙◌, subst, append_assoc, arith}
use Rattle.std.proofs.lemmas.List.{append-nil}
use Rattle.script_words.specs.Lines.{is_text, lines_of}
use Rattle.script_words.specs.Words.{words_of}
use Rattle.script_read.specs.IsScript.{IsScript, MayFollow, MayContinue}
use Rattle.script_read.specs.Limits.{IsInLimits}
use Rattle.script_read.specs.Script.{Refusal, before, command_by, command_in, ended, from_step, open_after, open_past, script_from, script_of, spoken, step_of}
use Rattle.pixel_formats.specs.Limits.{max_line_bytes, max_lines}
use Rattle.script_fields.proofs.ValuesBack.{numbers_fit_read}
use Rattle.script_fields.specs.Fields.{fields_of_words}
use Rattle.script_fields.specs.declared.cause.ScriptCause.{ScriptCause}
use Rattle.script_fields.specs.declared.field.Field.{Field}
use Rattle.script_read.specs.Commands.{command_of}
use Rattle.script_read.specs.Forms.{is_counted, kinds_for}
use Rattle.script_read.specs.declared.forms.Form.{Form}
use Rattle.script_read.specs.declared.command.Command.{Command}
use Rattle.script_read.specs.declared.command.Line.{Line}
use Rattle.script_read.specs.declared.reader.ReadLine.{ReadLine}

-- the words of a line of text, neither too long nor too late, are what is read of it
pub command_in-of_words : (number : ℕ) (line : List ℕ) → is_text line ≡ true → nat_le (length line) max_line_bytes ≡ true → nat_le number max_lines ≡ true →
    command_in number line ≡ spoken (words_of line)
unfolding command_in
command_in-of_words number line text short early = rw (text, short, early) refl

-- where the fields of words are read, the numbers are numbers, and the command is made of the fields
pub command_by-read : (form : Form) (words : List (List ℕ)) (read : List Field) → is_counted form words ≡ true → fields_of_words (kinds_for form words) words ≡ Ok read →
    command_by form words ≡ command_of form read
unfolding command_by
command_by-read form words read counted are = rw (counted, numbers_fit_read (kinds_for form words) words read are, are) refl

-- lines before those that are read after them
abbrev pub ahead : List Line → Result (List Line) Refusal → Result (List Line) Refusal
ahead lines (Ok rest) = Ok (lines ++ rest)
ahead lines (Err refusal) = Err refusal

ahead-nil : (read : Result (List Line) Refusal) → ahead [] read ≡ read
ahead-nil (Ok lines) = refl
ahead-nil (Err refusal) = refl

-- the line of a command, where there is one
abbrev pub as_lines : ℕ → Option Command → List Line
as_lines number None = []
as_lines number (Some command) = record { number = number; command = command } ∷ []

ahead-before : (lines : List Line) (number : ℕ) (command : Option Command) (read : Result (List Line) Refusal) →
    ahead lines (before number command read) ≡ ahead (lines ++ as_lines number command) read
ahead-before lines number None read = ap (λ (all : List Line). ahead all read) (sym (append-nil lines))
ahead-before lines number (Some command) (Ok rest) = ap Ok (sym (append_assoc lines (record { number = number; command = command } ∷ []) rest))
ahead-before lines number (Some command) (Err refusal) = refl

pub reads_nothing : (text : List ℕ) → script_of text ≡ ahead [] (script_from 1 None (lines_of text))
unfolding script_of
reads_nothing text = sym (ahead-nil (script_from 1 None (lines_of text)))

pub reads_on : (lines : List Line) (number : ℕ) (watching : Option ℕ) (line : List ℕ) (rest : List (List ℕ)) (step : ReadLine) → step_of number watching line ≡ Ok step →
    ahead lines (script_from number watching (line ∷ rest)) ≡ ahead (lines ++ as_lines number step.command) (script_from (number + 1) step.watching rest)
reads_on lines number watching line rest step is =
    ap (λ (read : Result ReadLine ScriptCause). ahead lines (from_step number read (λ (after : Option ℕ). script_from (number + 1) after rest))) is
    ∙ ahead-before lines number step.command (script_from (number + 1) step.watching rest)

-- what may follow the next line may follow this one
MayFollow-earlier : (number : ℕ) (watching : Option ℕ) (rest : List Line) → MayFollow (number + 1) watching rest → MayFollow number watching rest
MayFollow-earlier number watching [] follows = follows
MayFollow-earlier number watching (line ∷ lines) follows =
    let later : number + 1 ≤ line.number = follows.0 in
    (omega arith, follows.1, follows.2, follows.3)

-- the lines so far, with what may follow them, are a script's
abbrev pub LeadsTo : List Line → ℕ → Option ℕ → Type 0
LeadsTo lines number watching = (rest : List Line) → MayFollow number watching rest → IsScript (lines ++ rest)

pub leads_on : (lines : List Line) (number : ℕ) (watching after : Option ℕ) (command : Option Command) → LeadsTo lines number watching → number ≤ max_lines →
    IfSome command IsInLimits → open_past number watching command ≡ Ok after → LeadsTo (lines ++ as_lines number command) (number + 1) after
leads_on lines number watching after None leads early keeps is rest follows =
    let same : watching ≡ after = cc in
    let before : MayFollow number watching rest =
    MayFollow-earlier number watching rest (subst (λ (w : Option ℕ). MayFollow (number + 1) w rest) (sym same) follows) in
    subst (λ (all : List Line). IsScript (all ++ rest)) (sym (append-nil lines)) (leads rest before)
leads_on lines number watching after (Some command) leads early keeps is rest follows =
    let line : Line = record { number = number; command = command } in
    let continues : MayContinue (open_after number watching command) (λ (w : Option ℕ). MayFollow (number + 1) w rest) =
    subst (λ (r : Result (Option ℕ) ScriptCause). MayContinue r (λ (w : Option ℕ). MayFollow (number + 1) w rest)) (sym is) follows in
    subst (λ (all : List Line). IsScript all) (sym (append_assoc lines (line ∷ []) rest)) (leads (line ∷ rest) (omega arith, early, keeps, continues))

pub leads_here : (lines : List Line) (number : ℕ) → LeadsTo lines number None → IsScript lines
leads_here lines number leads = subst (λ (all : List Line). IsScript all) (append-nil lines) (leads [] refl)

-- after the last line
pub reads_end : (lines : List Line) (number : ℕ) (watching : Option ℕ) (rest : List ℕ) → rest ≡ [] →
    ahead lines (script_from number watching (lines_of rest)) ≡ ahead lines (ended watching)
unfolding lines_of
reads_end lines number watching rest is = ap (λ (text : List ℕ). ahead lines (script_from number watching (lines_of text))) is
