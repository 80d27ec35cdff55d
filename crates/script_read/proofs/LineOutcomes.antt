-- A line is refused for the lowest of its causes, or read.
use Rattle.std.proofs.Common.{◌≡◌, ℕ, Bool, true, false, not, nat_le, nat_lt, List, [], ◌∷◌, drop, length, Option, Some, None, Result, Ok, Err, refl, ap, ◌∙◌}
use Rattle.std.specs.Option.{ok_or, option_map_or, unwrap_or}
use Rattle.pixel_formats.specs.Limits.{max_line_bytes, max_lines}
use Rattle.script_words.specs.Lines.{is_text}
use Rattle.script_words.specs.Words.{words_of}
use Rattle.script_fields.specs.Fields.{◌>>=◌, fields_of_words, found, names_fit, numbers_fit, passed, word_at}
use Rattle.script_fields.specs.declared.cause.ScriptCause.{ScriptCause}
use Rattle.script_fields.specs.declared.cause.ScriptCause.TheVariants as causes
use Rattle.script_fields.specs.declared.field.Field.{Field}
use Rattle.script_fields.specs.declared.kind.Kind.{Kind}
use Rattle.script_read.specs.Commands.{command_of}
use Rattle.script_read.specs.Forms.{is_counted, kinds_for}
use Rattle.script_read.specs.Keywords.{keyword_of}
use Rattle.script_read.specs.LineCauses.{any_field, fields_anyway, is_out_of_order, is_refused, line_has, makes_none, words_have}
use Rattle.script_read.specs.OperationWords.{operation_of}
use Rattle.script_read.specs.Script as script
use Rattle.script_read.specs.Script.{command_by, command_in, command_of_words, is_silent, open_past, spoken, step_of}
use Rattle.script_read.specs.Spelling as spelling
use Rattle.script_read.specs.TextCauses.{open_after, open_after_line}
use Rattle.script_read.specs.declared.command.Command.{Command}
use Rattle.script_read.specs.declared.command.Command.TheVariants as commands
use Rattle.script_read.specs.declared.forms.Form.{Form}
use Rattle.script_read.specs.declared.forms.Form.TheVariants as forms
use Rattle.script_read.specs.declared.keyword.Keyword.{Keyword}
use Rattle.script_read.specs.declared.keyword.Keyword.TheVariants as keywords
use Rattle.script_read.specs.declared.operation_word.OperationWord.{OperationWord}
use Rattle.script_read.specs.declared.reader.ReadLine.{ReadLine}
use Rattle.script_read.proofs.FormLaws.{Made, first_of, made-fields}
use Rattle.script_read.proofs.Outcomes.{Verdict, guard, guards-fields, guards-passed, lowest_by, outcome, outcome-bind, outcome-step}

-- the lowest cause from that of words on, and what is said where there is none
abbrev pub lowest_of_words : (ScriptCause → Bool) → Verdict → Verdict
lowest_of_words has rest =
    guard (not (has causes.UnknownCommand)) causes.UnknownCommand
    (guard (not (has causes.Words)) causes.Words
    (guard (not (has causes.Number)) causes.Number
    (guard (not (has causes.Name)) causes.Name
    (guard (not (has causes.Rect)) causes.Rect
    (guard (not (has causes.Order)) causes.Order rest)))))

-- the same from the first cause on
abbrev pub lowest : (ScriptCause → Bool) → Verdict → Verdict
lowest has rest =
    guard (not (has causes.NotAscii)) causes.NotAscii
    (guard (not (has causes.LineTooLong)) causes.LineTooLong
    (guard (not (has causes.TooManyLines)) causes.TooManyLines
    (lowest_of_words has rest)))

-- the watch that is open after a command, or why the command is out of order
abbrev after_command : ℕ → Option ℕ → Command → Verdict
after_command number watching command = script.open_after number watching command

-- the same by its keyword
abbrev after_keyword : ℕ → Option ℕ → Keyword → Verdict
after_keyword number watching keyword =
    guard (not (is_out_of_order watching keyword)) causes.Order (Ok (open_after number watching keyword))

opens : (number : ℕ) (watching : Option ℕ) (command : Command) → after_command number watching command ≡ after_keyword number watching (spelling.keyword command)
opens number None (commands.Watch name rect viewers frames prefix) = refl
opens number None command = refl
opens number (Some line) (commands.Watch name rect viewers frames prefix) = refl
opens number (Some line) command = refl

not_not : (test : Bool) (cause : ScriptCause) (rest : Verdict) → guard test cause rest ≡ guard (not (not test)) cause rest
not_not true cause rest = refl
not_not false cause rest = refl

-- ---- the words after the first

lets_pass : (test : Bool) (cause : ScriptCause) → passed {A = Unit {0}} test cause tt ≡ Ok tt → test ≡ true
lets_pass true cause is = refl
lets_pass false cause is = absurd (cc)

-- fields that are read are those, whatever the names are
anyway-cons : (kind : Kind) (others : List Kind) (words : List (List ℕ)) (field : Field) (rest : Result (List Field) ScriptCause) (read : List Field)
    → ((more : List Field) → rest ≡ Ok more → fields_anyway others words ≡ more) → (rest >>= λ more. Ok (field ∷ more)) ≡ Ok read → (field ∷ fields_anyway others words) ≡ read
anyway-cons kind others words field (Err cause) read same is = absurd (cc)
anyway-cons kind others words field (Ok more) read same is =
    let whole : (field ∷ more) ≡ read = cc in
    ap (λ (fs : List Field). field ∷ fs) (same more refl) ∙ whole

anyway-word : (kind : Kind) (others : List Kind) (words : List (List ℕ)) (named : Option Field) (rest : Result (List Field) ScriptCause) (read : List Field)
    → ((more : List Field) → rest ≡ Ok more → fields_anyway others words ≡ more) → (ok_or named causes.Name >>= λ field. rest >>= λ more. Ok (field ∷ more)) ≡ Ok read
    → (unwrap_or named (any_field kind) ∷ fields_anyway others words) ≡ read
anyway-word kind others words None rest read same is = absurd (cc)
anyway-word kind others words (Some field) rest read same is = anyway-cons kind others words field rest read same is

read_anyway : (all : List Kind) (words : List (List ℕ)) (read : List Field) → fields_of_words all words ≡ Ok read → fields_anyway all words ≡ read
read_anyway all [] read is = cc
read_anyway [] (word ∷ words) read is = cc
read_anyway (kind ∷ others) (word ∷ words) read is =
    anyway-word kind others words (found kind word) (fields_of_words others words) read (λ more. read_anyway others words more) is

module _ (form : Form) (words : List (List ℕ)) (next : Command → Verdict) (rest : Verdict)
    (same : (command : Command) → spelling.keyword command ≡ first_of form → next command ≡ rest) where
  made-outcome : (read : Result Command ScriptCause) → Made form read → outcome next read ≡ guard (not (is_refused read)) causes.Rect rest
  made-outcome (Ok command) made = same command made.1
  made-outcome (Err cause) made = ap (λ (c : ScriptCause). Err c) made

  fields-outcome : (read : List Field) → is_counted form words ≡ true → numbers_fit (kinds_for form words) words ≡ true → fields_of_words (kinds_for form words) words ≡ Ok read
      → outcome next (command_of form read) ≡ guard (not (makes_none form words)) causes.Rect rest
  fields-outcome read counted fit are =
      rw (fit, read_anyway (kinds_for form words) words read are) (made-outcome (command_of form read) (made-fields form words read counted are))

  form-outcome : outcome next (command_by form words) ≡ lowest_by form words rest
  unfolding command_by
  form-outcome =
      outcome-step (passed {A = Unit {0}} (is_counted form words) causes.Words tt) _ _ _ next _ (guards-passed (is_counted form words) causes.Words tt) (λ _ counted.
      outcome-step (passed {A = Unit {0}} (numbers_fit (kinds_for form words) words) causes.Number tt) _ _ _ next _ (guards-passed (numbers_fit (kinds_for form words) words) causes.Number tt) (λ _ numbers.
      outcome-step (fields_of_words (kinds_for form words) words) _ _ _ next _ (guards-fields (kinds_for form words) words (lets_pass (numbers_fit (kinds_for form words) words) causes.Number numbers)) (λ read are.
      fields-outcome read (lets_pass (is_counted form words) causes.Words counted) (lets_pass (numbers_fit (kinds_for form words) words) causes.Number numbers) are)))

-- ---- the words of a command

doubled : (counted numbers names : Bool) (rest : Verdict)
    → guard counted causes.Words (guard numbers causes.Number (guard names causes.Name rest))
    ≡ guard (not (not counted)) causes.Words (guard (not (not numbers)) causes.Number (guard (not (not names)) causes.Name rest))
doubled true true true rest = refl
doubled true true false rest = refl
doubled true false names rest = refl
doubled false numbers names rest = refl

-- the lowest cause by a form, as the causes of words say it
abbrev lowest_of_form : Form → List (List ℕ) → Verdict → Verdict
lowest_of_form form words rest =
    guard (not (not (is_counted form words))) causes.Words
    (guard (not (not (numbers_fit (kinds_for form words) words))) causes.Number
    (guard (not (not (names_fit (kinds_for form words) words))) causes.Name
    (guard (not (makes_none form words)) causes.Rect rest)))

module _ (number : ℕ) (watching : Option ℕ) where
  after-form : (form : Form) (words : List (List ℕ))
      → outcome (after_command number watching) (command_by form words) ≡ lowest_of_form form words (after_keyword number watching (first_of form))
  after-form form words =
      form-outcome form words (after_command number watching) (after_keyword number watching (first_of form))
      (λ command first. opens number watching command ∙ ap (λ (keyword : Keyword). after_keyword number watching keyword) first)
      ∙ doubled (is_counted form words) (numbers_fit (kinds_for form words) words) (names_fit (kinds_for form words) words)
      (guard (not (makes_none form words)) causes.Rect (after_keyword number watching (first_of form)))

module _ (number : ℕ) (watching : Option ℕ) (words : List (List ℕ)) where
  abbrev Lowest : Option Keyword → Type 0
  Lowest found =
      outcome (after_command number watching) (command_of_words words)
      ≡ lowest_of_words (words_have watching words) (Ok (option_map_or (open_after number watching) found watching))

  node-outcome : keyword_of (word_at words 0) ≡ Some keywords.Node → (enough : Bool) → nat_lt 2 (length words) ≡ enough
      → (operation : Option OperationWord) → operation_of (word_at words 2) ≡ operation → Lowest (Some keywords.Node)
  unfolding command_of_words
  node-outcome is false short operation known = rw (is, short) refl
  node-outcome is true enough None unknown = rw (is, enough, unknown) refl
  node-outcome is true enough (Some operation) known = rw (is, enough, known) (after-form number watching (forms.Node operation) (drop 1 words))

  keyword-outcome : (keyword : Keyword) → keyword_of (word_at words 0) ≡ Some keyword → Lowest (Some keyword)
  unfolding command_of_words
  keyword-outcome keywords.Node is = node-outcome is (nat_lt 2 (length words)) refl (operation_of (word_at words 2)) refl
  keyword-outcome keyword is = rw is (after-form number watching (forms.Command keyword) (drop 1 words))

  command-outcome : (found : Option Keyword) → keyword_of (word_at words 0) ≡ found → Lowest found
  unfolding command_of_words
  command-outcome None unknown = rw unknown refl
  command-outcome (Some keyword) is = keyword-outcome keyword is

-- ---- lines

same_outcome : {A : Type 0} (one other : A → Verdict) (read : Result A ScriptCause) → ((value : A) → one value ≡ other value) → outcome one read ≡ outcome other read
same_outcome one other (Ok value) same = same value
same_outcome one other (Err cause) same = refl

-- what is read of a line has the watch that is open after it
read_watch : (command : Option Command) (watch : Verdict)
    → outcome (λ (step : ReadLine). Ok step.watching) (watch >>= λ after. Ok (record { command = command; watching = after })) ≡ watch
read_watch command (Ok after) = refl
read_watch command (Err cause) = refl

module _ (number : ℕ) (watching : Option ℕ) (line : List ℕ) where
  abbrev after_line : Verdict
  after_line = Ok (open_after_line number watching line)

  spoken-outcome : (silent : Bool) → is_silent (words_of line) ≡ silent
      → outcome (open_past number watching) (spoken (words_of line)) ≡ lowest_of_words (line_has number watching line) after_line
  unfolding spoken
  spoken-outcome true silent = rw silent refl
  spoken-outcome false speaks = rw speaks (
      outcome-bind (command_of_words (words_of line)) (λ command. Ok (Some command)) (open_past number watching)
      ∙ command-outcome number watching (words_of line) (keyword_of (word_at (words_of line) 0)) refl)

  command_in-outcome : outcome (open_past number watching) (command_in number line) ≡ lowest (line_has number watching line) after_line
  unfolding command_in
  command_in-outcome =
      let words : Verdict = lowest_of_words (line_has number watching line) after_line in
      let early : Verdict = guard (not (not (nat_le number max_lines))) causes.TooManyLines words in
      let short : Verdict = guard (not (not (nat_le (length line) max_line_bytes))) causes.LineTooLong early in
      outcome-step (passed {A = Unit {0}} (is_text line) causes.NotAscii tt) _ _ _ (open_past number watching) _ (guards-passed (is_text line) causes.NotAscii tt) (λ _ _.
      outcome-step (passed {A = Unit {0}} (nat_le (length line) max_line_bytes) causes.LineTooLong tt) _ _ _ (open_past number watching) _ (guards-passed (nat_le (length line) max_line_bytes) causes.LineTooLong tt) (λ _ _.
      outcome-step (passed {A = Unit {0}} (nat_le number max_lines) causes.TooManyLines tt) _ _ _ (open_past number watching) _ (guards-passed (nat_le number max_lines) causes.TooManyLines tt) (λ _ _.
      spoken-outcome (is_silent (words_of line)) refl)
      ∙ not_not (nat_le number max_lines) causes.TooManyLines words)
      ∙ not_not (nat_le (length line) max_line_bytes) causes.LineTooLong early)
      ∙ not_not (is_text line) causes.NotAscii short

  pub line-outcome : outcome (λ (step : ReadLine). Ok step.watching) (step_of number watching line) ≡ lowest (line_has number watching line) after_line
  unfolding step_of
  line-outcome =
      outcome-bind (command_in number line) (λ command. open_past number watching command >>= λ after. Ok (record { command = command; watching = after })) (λ (step : ReadLine). Ok step.watching)
      ∙ same_outcome _ (open_past number watching) (command_in number line) (λ command. read_watch command (open_past number watching command))
      ∙ command_in-outcome
