-- The commands that are made of the fields of lines. Fields of the kinds of a form are refused only where four of them
-- are no rectangle that the command may have.
use Rattle.std.specs.Prelude.{ℕ, ◌-◌, List, drop, length, Result, Ok, Err}
use Rattle.pixel_formats.specs.declared.abyss.Abyss.{Abyss}
use Rattle.script_fields.specs.Fields.{◌>>=◌, names_in, naturals_in}
use Rattle.script_fields.specs.declared.cause.ScriptCause.{ScriptCause}
use Rattle.script_fields.specs.declared.cause.ScriptCause.TheVariants as causes
use Rattle.script_fields.specs.declared.field.Field.{Field}
use Rattle.script_read.specs.Arguments.{file_at, format_at, integer_at, level_rect_at, name_at, natural_at, policy_at, rect_at, sideways_at, watched_rect_at}
use Rattle.script_read.specs.Limits.{input_count}
use Rattle.script_read.specs.declared.command.Command.{Command}
use Rattle.script_read.specs.declared.command.Command.TheVariants as commands
use Rattle.script_read.specs.declared.command.OpWords.{OpWords}
use Rattle.script_read.specs.declared.command.OpWords.TheVariants.{Source, Compute}
use Rattle.model_operations.specs.declared.operation.IntOp.{IntOp}
use Rattle.model_operations.specs.declared.operation.IntOp.TheVariants as ops
use Rattle.script_read.specs.declared.forms.Form.{Form}
use Rattle.script_read.specs.declared.forms.Form.TheVariants as forms
use Rattle.script_read.specs.declared.keyword.Keyword.{Keyword}
use Rattle.script_read.specs.declared.keyword.Keyword.TheVariants as keywords
use Rattle.script_read.specs.declared.operation_word.OperationWord.{OperationWord}
use Rattle.script_read.specs.declared.operation_word.OperationWord.TheVariants as operations

-- the command of a first word and fields, but not nodes
abbrev pub command_with : Keyword → List Field → Result Command ScriptCause
command_with keywords.Buffer fields = do
  name ← name_at fields 0
  format ← format_at fields 1
  rect ← rect_at fields 2
  Ok (commands.Buffer name format rect)
command_with keywords.Sub fields = do
  name ← name_at fields 0
  parent ← name_at fields 1
  rect ← rect_at fields 2
  Ok (commands.Sub name parent rect)
command_with keywords.Dup fields = do
  name ← name_at fields 0
  from ← name_at fields 1
  Ok (commands.Dup name from)
command_with keywords.Load fields = do
  name ← name_at fields 0
  rect ← rect_at fields 1
  file ← file_at fields 5
  Ok (commands.Load name rect file)
command_with keywords.Fill fields = do
  name ← name_at fields 0
  rect ← rect_at fields 1
  Ok (commands.Fill name rect (naturals_in (drop 5 fields)))
command_with keywords.Copy fields = do
  from ← name_at fields 0
  to ← name_at fields 1
  rect ← rect_at fields 2
  dx ← integer_at fields 6
  dy ← integer_at fields 7
  Ok (commands.Copy from to rect dx dy)
command_with keywords.Node fields = Err causes.Rect
command_with keywords.Drop fields = do
  name ← name_at fields 0
  Ok (commands.Drop name)
command_with keywords.Commit fields = Ok commands.Commit
command_with keywords.Undo fields = Ok commands.Undo
command_with keywords.Redo fields = Ok commands.Redo
command_with keywords.Render fields = do
  name ← name_at fields 0
  level ← natural_at fields 1
  rect ← level_rect_at fields 2 level
  file ← file_at fields 6
  Ok (commands.Render name level rect file)
command_with keywords.Grab fields = do
  name ← name_at fields 0
  level ← natural_at fields 1
  policy ← policy_at fields 2
  rect ← level_rect_at fields 3 level
  file ← file_at fields 7
  Ok (commands.Grab name level policy rect file)
command_with keywords.Watch fields = do
  name ← name_at fields 0
  viewers ← natural_at fields 5
  frames ← natural_at fields 6
  rect ← watched_rect_at fields 1 viewers frames
  prefix ← file_at fields 7
  Ok (commands.Watch name rect viewers frames prefix)
command_with keywords.EndWatch fields = Ok commands.EndWatch

-- the area operation of a word: a mean for `box`, a dilation for `dilate`, and else an erosion
abbrev pub area_operation : OperationWord → ℕ → Abyss → IntOp
area_operation operations.BoxMean radius abyss = ops.BoxMean radius abyss
area_operation operations.Dilate radius abyss = ops.Dilate radius abyss
area_operation _ radius abyss = ops.Erode radius abyss

abbrev pub area : OperationWord → List Field → Result OpWords ScriptCause
area operation fields = do
  radius ← natural_at fields 2
  policy ← policy_at fields 3
  Ok (Compute (area_operation operation radius policy))

-- what a node of an operation and fields does
abbrev pub operation_with : OperationWord → List Field → Result OpWords ScriptCause
operation_with operations.Source fields = do
  buffer ← name_at fields 2
  Ok (Source buffer)
operation_with operations.Color fields = do
  format ← format_at fields 2
  rect ← rect_at fields 3
  Ok (Compute (ops.Color format rect (naturals_in (drop 7 fields))))
operation_with operations.Checker fields = do
  format ← format_at fields 2
  rect ← rect_at fields 3
  size ← natural_at fields 7
  v1 ← natural_at fields 8
  v2 ← natural_at fields 9
  Ok (Compute (ops.Checker format rect size v1 v2))
operation_with operations.Convert fields = do
  format ← format_at fields 2
  Ok (Compute (ops.Convert format))
operation_with operations.Invert fields = Ok (Compute ops.Invert)
operation_with operations.Threshold fields = do
  at ← natural_at fields 2
  Ok (Compute (ops.Threshold at))
operation_with operations.Gain fields = do
  num ← natural_at fields 2
  den ← natural_at fields 3
  Ok (Compute (ops.Gain num den))
operation_with operations.Translate fields = do
  dx ← integer_at fields 2
  dy ← integer_at fields 3
  Ok (Compute (ops.Translate dx dy))
operation_with operations.Crop fields = do
  rect ← rect_at fields 2
  Ok (Compute (ops.Crop rect))
operation_with operations.Flip fields = do
  sideways ← sideways_at fields 2
  Ok (Compute (ops.Flip sideways))
operation_with operations.BoxMean fields = area operations.BoxMean fields
operation_with operations.Dilate fields = area operations.Dilate fields
operation_with operations.Erode fields = area operations.Erode fields
operation_with operations.Add fields = Ok (Compute ops.Add)
operation_with operations.Over fields = Ok (Compute ops.Over)
operation_with operations.Mask fields = Ok (Compute ops.Mask)

-- the inputs of a node: the last of its fields, as many as it has
abbrev pub inputs_in : List Field → OpWords → List (List ℕ)
inputs_in fields op = names_in (drop (length fields - input_count op) fields)

-- the node of an operation and fields: its name, the operation's word, its arguments and its inputs
abbrev pub node_with : OperationWord → List Field → Result Command ScriptCause
node_with operation fields = do
  name ← name_at fields 0
  op ← operation_with operation fields
  Ok (commands.Node name op (inputs_in fields op))

-- the command of a form and fields
abbrev pub command_of : Form → List Field → Result Command ScriptCause
command_of (forms.Command keyword) fields = command_with keyword fields
command_of (forms.Node operation) fields = node_with operation fields
