-- How commands are printed: their words, with single spaces between them, each command on the line of its number.
use Rattle.std.specs.Prelude.{ℕ, ◌+◌, ◌-◌, IsTrue, List, [], ◌∷◌, ◌++◌, map, replicate, decimal}
use Rattle.plane_rect.specs.Name.{is_name}
use Rattle.script_words.specs.Lines.{text_of}
use Rattle.script_words.specs.Words.{joined}
use Rattle.script_fields.specs.Spelling.{AreValid, AreNames, words_of_fields}
use Rattle.script_fields.specs.declared.field.Field.{Field}
use Rattle.script_fields.specs.declared.field.Field.TheVariants as fields
use Rattle.script_read.specs.Keywords.{keyword_word}
use Rattle.script_read.specs.OperationWords.{operation_word}
use Rattle.script_read.specs.declared.command.Command.{Command}
use Rattle.script_read.specs.declared.command.Command.TheVariants.{Buffer, Sub, Dup, Load, Fill, Copy, Node, Drop, Commit, Undo, Redo, Render, Grab, Watch, EndWatch}
use Rattle.script_read.specs.declared.command.OpWords.{OpWords}
use Rattle.script_read.specs.declared.command.OpWords.TheVariants.{Source, Compute}
use Rattle.model_operations.specs.declared.operation.IntOp.{IntOp}
use Rattle.model_operations.specs.declared.operation.IntOp.TheVariants.{Color, Checker, Convert, Invert, Threshold, Gain, Translate, Crop, Flip, BoxMean, Dilate, Erode, Add, Over, Mask}
use Rattle.script_read.specs.declared.command.Line.{Line}
use Rattle.script_read.specs.declared.keyword.Keyword.{Keyword}
use Rattle.script_read.specs.declared.keyword.Keyword.TheVariants as keywords
use Rattle.script_read.specs.declared.operation_word.OperationWord.{OperationWord}
use Rattle.script_read.specs.declared.operation_word.OperationWord.TheVariants as operations

-- ---- operations

-- the word of an operation
abbrev pub word_of_operation : IntOp → OperationWord
word_of_operation (Color format rect samples) = operations.Color
word_of_operation (Checker format rect size v1 v2) = operations.Checker
word_of_operation (Convert format) = operations.Convert
word_of_operation Invert = operations.Invert
word_of_operation (Threshold at) = operations.Threshold
word_of_operation (Gain num den) = operations.Gain
word_of_operation (Translate dx dy) = operations.Translate
word_of_operation (Crop rect) = operations.Crop
word_of_operation (Flip sideways) = operations.Flip
word_of_operation (BoxMean radius policy) = operations.BoxMean
word_of_operation (Dilate radius policy) = operations.Dilate
word_of_operation (Erode radius policy) = operations.Erode
word_of_operation Add = operations.Add
word_of_operation Over = operations.Over
word_of_operation Mask = operations.Mask

-- the third word of a node
abbrev pub word_of : OpWords → OperationWord
word_of (Source buffer) = operations.Source
word_of (Compute op) = word_of_operation op

-- the arguments of an operation, but samples
abbrev pub operation_arguments : IntOp → List Field
operation_arguments (Color format rect samples) = fields.Format format ∷ fields.Rect rect ∷ []
operation_arguments (Checker format rect size v1 v2) =
    fields.Format format ∷ fields.Rect rect ∷ fields.Natural size ∷ fields.Natural v1 ∷ fields.Natural v2 ∷ []
operation_arguments (Convert format) = fields.Format format ∷ []
operation_arguments Invert = []
operation_arguments (Threshold at) = fields.Natural at ∷ []
operation_arguments (Gain num den) = fields.Natural num ∷ fields.Natural den ∷ []
operation_arguments (Translate dx dy) = fields.Integer dx ∷ fields.Integer dy ∷ []
operation_arguments (Crop rect) = fields.Rect rect ∷ []
operation_arguments (Flip sideways) = fields.Sideways sideways ∷ []
operation_arguments (BoxMean radius policy) = fields.Natural radius ∷ fields.Policy policy ∷ []
operation_arguments (Dilate radius policy) = fields.Natural radius ∷ fields.Policy policy ∷ []
operation_arguments (Erode radius policy) = fields.Natural radius ∷ fields.Policy policy ∷ []
operation_arguments Add = []
operation_arguments Over = []
operation_arguments Mask = []

-- those of what a node does
abbrev pub arguments : OpWords → List Field
arguments (Source buffer) = fields.Name buffer ∷ []
arguments (Compute op) = operation_arguments op

-- the samples
abbrev pub samples_in : OpWords → List ℕ
samples_in (Compute (Color format rect samples)) = samples
samples_in op = []

-- the words of an operation and its arguments
abbrev pub operation_words : OpWords → List (List ℕ)
operation_words op = operation_word (word_of op) ∷ words_of_fields (arguments op) ++ map decimal (samples_in op)

-- ---- commands

-- the first word of a command
abbrev pub keyword : Command → Keyword
keyword (Buffer name format rect) = keywords.Buffer
keyword (Sub name parent rect) = keywords.Sub
keyword (Dup name from) = keywords.Dup
keyword (Load name rect file) = keywords.Load
keyword (Fill name rect samples) = keywords.Fill
keyword (Copy from to rect dx dy) = keywords.Copy
keyword (Node name op inputs) = keywords.Node
keyword (Drop name) = keywords.Drop
keyword Commit = keywords.Commit
keyword Undo = keywords.Undo
keyword Redo = keywords.Redo
keyword (Render name level rect file) = keywords.Render
keyword (Grab name level policy rect file) = keywords.Grab
keyword (Watch name rect viewers frames prefix) = keywords.Watch
keyword EndWatch = keywords.EndWatch

-- the fields of the commands that write files
abbrev pub output_fields : Command → List Field
output_fields (Render name level rect file) =
    fields.Name name ∷ fields.Natural level ∷ fields.Rect rect ∷ fields.File file ∷ []
output_fields (Grab name level policy rect file) =
    fields.Name name ∷ fields.Natural level ∷ fields.Policy policy ∷ fields.Rect rect ∷ fields.File file ∷ []
output_fields (Watch name rect viewers frames prefix) =
    fields.Name name ∷ fields.Rect rect ∷ fields.Natural viewers ∷ fields.Natural frames ∷ fields.File prefix ∷ []
output_fields command = []

-- the fields after the first word, up to those that are lists
abbrev pub fields_of : Command → List Field
fields_of (Buffer name format rect) = fields.Name name ∷ fields.Format format ∷ fields.Rect rect ∷ []
fields_of (Sub name parent rect) = fields.Name name ∷ fields.Name parent ∷ fields.Rect rect ∷ []
fields_of (Dup name from) = fields.Name name ∷ fields.Name from ∷ []
fields_of (Load name rect file) = fields.Name name ∷ fields.Rect rect ∷ fields.File file ∷ []
fields_of (Fill name rect samples) = fields.Name name ∷ fields.Rect rect ∷ []
fields_of (Copy from to rect dx dy) =
    fields.Name from ∷ fields.Name to ∷ fields.Rect rect ∷ fields.Integer dx ∷ fields.Integer dy ∷ []
fields_of (Node name op inputs) = fields.Name name ∷ []
fields_of (Drop name) = fields.Name name ∷ []
fields_of command = output_fields command

-- the words after these: samples, or an operation and its inputs
abbrev pub list_words : Command → List (List ℕ)
list_words (Fill name rect samples) = map decimal samples
list_words (Node name op inputs) = operation_words op ++ inputs
list_words command = []

-- the words of a command
abbrev pub command_words : Command → List (List ℕ)
command_words command = keyword_word (keyword command) ∷ words_of_fields (fields_of command) ++ list_words command

-- ---- scripts

-- the lines of commands from a number on: empty ones, and each command on the line of its number
unfoldable pub lines_printed : ℕ → List Line → List (List ℕ)
lines_printed number [] = []
lines_printed number (line ∷ lines) =
    replicate (line.number - number) [] ++ joined (command_words line.command) ∷ lines_printed (line.number + 1) lines

-- the text of a script
unfoldable pub printed : List Line → List ℕ
printed lines = text_of (lines_printed 1 lines)

-- ---- what the types of fields keep

-- the fields of a command are what their types keep
abbrev pub HasValidFields : Command → Type 0
HasValidFields (Node name op inputs) = IsTrue (is_name name) × AreValid (arguments op) × AreNames inputs
HasValidFields command = AreValid (fields_of command)
