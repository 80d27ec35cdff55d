-- The forms of lines: which words a command has, and what each word after the first has to be.
use Rattle.std.specs.Prelude.{ℕ, pos, neg_ℤ, ◌-◌, ◌^◌, ◌==◌, min, max, nat_lt, Bool, List, [], ◌∷◌, length, take, Result, Ok}
use Rattle.std.specs.Option.{ok_or}
use Rattle.pixel_formats.specs.Limits.{max_checker_size, max_factor, max_frames, max_level, max_move, max_radius, max_sample, max_viewers}
use Rattle.script_fields.specs.Fields.{◌>>=◌, passed, word_at}
use Rattle.script_fields.specs.declared.cause.ScriptCause.{ScriptCause}
use Rattle.script_fields.specs.declared.cause.ScriptCause.TheVariants as causes
use Rattle.script_fields.specs.declared.kind.Kind.{Kind}
use Rattle.script_fields.specs.declared.kind.Kind.TheVariants.{Name, File, Prefix, Format, Policy, AreaPolicy, Direction, Operation, Natural, Integer}
use Rattle.script_read.specs.Keywords.{keyword_of}
use Rattle.script_read.specs.OperationWords.{operation_of}
use Rattle.script_read.specs.declared.forms.Form.{Form}
use Rattle.script_read.specs.declared.forms.Form.TheVariants as forms
use Rattle.script_read.specs.declared.keyword.Keyword.{Keyword}
use Rattle.script_read.specs.declared.keyword.Keyword.TheVariants as keywords
use Rattle.script_read.specs.declared.operation_word.OperationWord.{OperationWord}
use Rattle.script_read.specs.declared.operation_word.OperationWord.TheVariants as operations

-- ---- kinds of words

-- a column, a row, a width or a height, in pixels
abbrev pub pixels : Kind
pixels = Integer (neg_ℤ (pos (2 ^ 31))) (pos (2 ^ 31 - 1))

-- how far something is moved along an axis
abbrev pub move : Kind
move = Integer (neg_ℤ (pos max_move)) (pos max_move)

-- a sample of any format
abbrev pub sample : Kind
sample = Natural 0 max_sample

-- the four words of a rectangle, before others
abbrev pub rectangle_then : List Kind → List Kind
rectangle_then others = pixels ∷ pixels ∷ pixels ∷ pixels ∷ others

-- at most four samples
abbrev pub samples : List Kind
samples = sample ∷ sample ∷ sample ∷ sample ∷ []

-- the most words of a line after the first
abbrev pub max_words : ℕ
max_words = 11

-- ---- the words of each command

-- What the words of a command have to be, of which there are so many after the first. Only a fill may have more than
-- one number of words. A node's are told by its operation.
abbrev pub command_kinds : Keyword → ℕ → List Kind
command_kinds keywords.Buffer count = Name ∷ Format ∷ rectangle_then []
command_kinds keywords.Sub count = Name ∷ Name ∷ rectangle_then []
command_kinds keywords.Dup count = Name ∷ Name ∷ []
command_kinds keywords.Load count = Name ∷ rectangle_then (File ∷ [])
command_kinds keywords.Fill count = take (min (max count 6) 9) (Name ∷ rectangle_then samples)
command_kinds keywords.Copy count = Name ∷ Name ∷ rectangle_then (move ∷ move ∷ [])
command_kinds keywords.Node count = Name ∷ []
command_kinds keywords.Drop count = Name ∷ []
command_kinds keywords.Commit count = []
command_kinds keywords.Undo count = []
command_kinds keywords.Redo count = []
command_kinds keywords.Render count = Name ∷ Natural 0 max_level ∷ rectangle_then (File ∷ [])
command_kinds keywords.Grab count = Name ∷ Natural 0 max_level ∷ Policy ∷ rectangle_then (File ∷ [])
command_kinds keywords.Watch count =
    Name ∷ rectangle_then (Natural 1 max_viewers ∷ Natural 1 max_frames ∷ Prefix ∷ [])
command_kinds keywords.EndWatch count = []

-- the same of a node, by its operation: its name, the operation, its arguments and its inputs
abbrev pub node_kinds : OperationWord → ℕ → List Kind
node_kinds operations.Source count = Name ∷ Operation ∷ Name ∷ []
node_kinds operations.Color count = take (min (max count 8) 11) (Name ∷ Operation ∷ Format ∷ rectangle_then samples)
node_kinds operations.Checker count =
    Name ∷ Operation ∷ Format ∷ rectangle_then (Natural 1 max_checker_size ∷ sample ∷ sample ∷ [])
node_kinds operations.Convert count = Name ∷ Operation ∷ Format ∷ Name ∷ []
node_kinds operations.Invert count = Name ∷ Operation ∷ Name ∷ []
node_kinds operations.Threshold count = Name ∷ Operation ∷ sample ∷ Name ∷ []
node_kinds operations.Gain count = Name ∷ Operation ∷ Natural 0 max_factor ∷ Natural 1 max_factor ∷ Name ∷ []
node_kinds operations.Translate count = Name ∷ Operation ∷ move ∷ move ∷ Name ∷ []
node_kinds operations.Crop count = Name ∷ Operation ∷ rectangle_then (Name ∷ [])
node_kinds operations.Flip count = Name ∷ Operation ∷ Direction ∷ Name ∷ []
node_kinds operations.BoxMean count = Name ∷ Operation ∷ Natural 1 max_radius ∷ AreaPolicy ∷ Name ∷ []
node_kinds operations.Dilate count = Name ∷ Operation ∷ Natural 1 max_radius ∷ AreaPolicy ∷ Name ∷ []
node_kinds operations.Erode count = Name ∷ Operation ∷ Natural 1 max_radius ∷ AreaPolicy ∷ Name ∷ []
node_kinds operations.Add count = Name ∷ Operation ∷ Name ∷ Name ∷ []
node_kinds operations.Over count = Name ∷ Operation ∷ Name ∷ Name ∷ []
node_kinds operations.Mask count = Name ∷ Operation ∷ Name ∷ Name ∷ []

-- ---- forms

abbrev pub kinds_of : Form → ℕ → List Kind
kinds_of (forms.Command keyword) count = command_kinds keyword count
kinds_of (forms.Node operation) count = node_kinds operation count

-- those of words after the first
abbrev pub kinds_for : Form → List (List ℕ) → List Kind
kinds_for form words = kinds_of form (length words)

-- there are as many words after the first as there have to be
abbrev pub is_counted : Form → List (List ℕ) → Bool
is_counted form words = length (kinds_for form words) == length words

-- the form of words whose first is this, a node's by the third
abbrev pub form_by : Keyword → List (List ℕ) → Result Form ScriptCause
form_by keywords.Node words = do
  _ ← passed {A = Unit {0}} (nat_lt 2 (length words)) causes.Words tt
  operation ← ok_or (operation_of (word_at words 2)) causes.UnknownCommand
  Ok (forms.Node operation)
form_by keyword words = Ok (forms.Command keyword)

abbrev pub form_of : List (List ℕ) → Result Form ScriptCause
form_of words = ok_or (keyword_of (word_at words 0)) causes.UnknownCommand >>= λ keyword. form_by keyword words
