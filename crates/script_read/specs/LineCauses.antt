-- The causes for which a line is refused, each by itself.
use Rattle.std.specs.Prelude.{◌≡◌, ℕ, ◌<◌, Bool, true, false, not, ◌&&◌, ◌||◌, nat_le, nat_lt, List, [], ◌∷◌, IsTrue, Option, is_none, is_some, Result, Ok, Err, drop, length}
use Rattle.std.specs.Option.{option_map_or, unwrap_or}
use Rattle.pixel_formats.specs.Limits.{max_line_bytes, max_lines}
use Rattle.script_words.specs.Lines.{is_text}
use Rattle.script_words.specs.Words.{words_of}
use Rattle.script_fields.specs.Fields.{found, names_fit, numbers_fit, word_at}
use Rattle.script_fields.specs.declared.cause.ScriptCause.{ScriptCause}
use Rattle.script_fields.specs.declared.cause.ScriptCause.TheVariants as causes
use Rattle.script_fields.specs.declared.field.Field.{Field}
use Rattle.script_fields.specs.declared.field.Field.TheVariants as fields
use Rattle.script_fields.specs.declared.kind.Kind.{Kind}
use Rattle.script_fields.specs.declared.kind.Kind.TheVariants as kinds
use Rattle.pixel_formats.specs.declared.abyss.Abyss.TheVariants as policies
use Rattle.pixel_formats.specs.declared.format.Format.TheVariants.{Y8}
use Rattle.script_read.specs.Keywords.{keyword_of}
use Rattle.script_read.specs.OperationWords.{operation_of}
use Rattle.script_read.specs.Script.{is_silent}
use Rattle.script_read.specs.declared.keyword.Keyword.{Keyword}
use Rattle.script_read.specs.declared.keyword.Keyword.TheVariants as keywords
use Rattle.script_read.specs.declared.forms.Form.{Form}
use Rattle.script_read.specs.Commands.{command_of}
use Rattle.script_read.specs.Forms.{form_of, is_counted, kinds_for}

-- the command that a line's first word names
abbrev pub keyword_in : List (List ℕ) → Option Keyword
keyword_in words = keyword_of (word_at words 0)

abbrev pub is_node : Keyword → Bool
is_node keywords.Node = true
is_node keyword = false

-- a watch begins inside another, or none is open that ends
abbrev pub is_out_of_order : Option ℕ → Keyword → Bool
is_out_of_order watching keywords.Watch = is_some watching
is_out_of_order watching keywords.EndWatch = is_none watching
is_out_of_order watching keyword = false

-- the words are those of a node, of which enough are there to name its operation
abbrev pub names_operation : List (List ℕ) → Bool
names_operation words = nat_lt 2 (length words)

abbrev pub has_keyword : (Keyword → Bool) → List (List ℕ) → Bool
has_keyword test words = option_map_or test (keyword_in words) false

-- a test of what is read, where it is
abbrev pub if_read : {A : Type 0} → Result A ScriptCause → (A → Bool) → Bool
if_read (Ok value) test = test value
if_read (Err cause) test = false

abbrev pub is_refused : {A : Type 0} → Result A ScriptCause → Bool
is_refused (Ok value) = false
is_refused (Err cause) = true

-- a test of the words after the first, where the line's form is known
abbrev pub by_form : (Form → List (List ℕ) → Bool) → List (List ℕ) → Bool
by_form test words = if_read (form_of words) (λ form. test form (drop 1 words))

-- a field of a kind, in place of a name that is none
abbrev pub any_field : Kind → Field
any_field kinds.Name = fields.Name []
any_field kinds.File = fields.File []
any_field kinds.Prefix = fields.File []
any_field kinds.Format = fields.Format Y8
any_field kinds.Policy = fields.Policy policies.None
any_field kinds.AreaPolicy = fields.Policy policies.None
any_field kinds.Direction = fields.Sideways true
any_field kinds.Operation = fields.Operation
any_field (kinds.Natural low high) = fields.Natural low
any_field (kinds.Integer low high) = fields.Integer low

-- the fields of words, whatever their names are
abbrev pub fields_anyway : List Kind → List (List ℕ) → List Field
fields_anyway all [] = []
fields_anyway [] (word ∷ words) = []
fields_anyway (kind ∷ others) (word ∷ words) = unwrap_or (found kind word) (any_field kind) ∷ fields_anyway others words

-- The numbers are numbers, but whatever the names are, no command is made of them: four of them are no rectangle that
-- it may have.
abbrev pub makes_none : Form → List (List ℕ) → Bool
makes_none form words =
    numbers_fit (kinds_for form words) words && is_refused (command_of form (fields_anyway (kinds_for form words) words))

-- the words of a command, while that watch is open, have a cause
abbrev pub words_have : Option ℕ → List (List ℕ) → ScriptCause → Bool
words_have watching words causes.NotAscii = false
words_have watching words causes.LineTooLong = false
words_have watching words causes.TooManyLines = false
words_have watching words causes.UnknownCommand =
    is_none (keyword_in words)
    || (has_keyword is_node words && names_operation words && is_none (operation_of (word_at words 2)))
words_have watching words causes.Words =
    (has_keyword is_node words && not (names_operation words))
    || by_form (λ form words. not (is_counted form words)) words
words_have watching words causes.Number = by_form (λ form words. not (numbers_fit (kinds_for form words) words)) words
words_have watching words causes.Name = by_form (λ form words. not (names_fit (kinds_for form words) words)) words
words_have watching words causes.Rect = by_form makes_none words
words_have watching words causes.Order = has_keyword (is_out_of_order watching) words

-- The line of a number, while that watch is open, has a cause. A line without words and a comment have no others than
-- the first three.
abbrev pub line_has : ℕ → Option ℕ → List ℕ → ScriptCause → Bool
line_has number watching line causes.NotAscii = not (is_text line)
line_has number watching line causes.LineTooLong = not (nat_le (length line) max_line_bytes)
line_has number watching line causes.TooManyLines = not (nat_le number max_lines)
line_has number watching line cause = not (is_silent (words_of line)) && words_have watching (words_of line) cause

-- ---- the lowest cause

-- the causes in their order
abbrev pub rank : ScriptCause → ℕ
rank causes.NotAscii = 1
rank causes.LineTooLong = 2
rank causes.TooManyLines = 3
rank causes.UnknownCommand = 4
rank causes.Words = 5
rank causes.Number = 6
rank causes.Name = 7
rank causes.Rect = 8
rank causes.Order = 9

-- of what has causes, this is one, and it has none that is lower
pub record IsLowest (has : ScriptCause → Bool) (cause : ScriptCause) : Type 0 where
  pub has_it : IsTrue (has cause)
  pub no_lower : (other : ScriptCause) → rank other < rank cause → has other ≡ false

-- it has none
abbrev pub HasNone : (ScriptCause → Bool) → Type 0
HasNone has = (cause : ScriptCause) → has cause ≡ false
