-- The limits that a script's commands keep: those of the kinds of their fields, of their lists and of their rectangles.
use Rattle.std.specs.Prelude.{ℕ, ◌≡◌, IsTrue, drop, is_some, length}
use Rattle.plane_rect.specs.Rectangle.{scaled}
use Rattle.script_fields.specs.Limits.{AreOf, may_watch}
use Rattle.pixel_formats.specs.Limits.{ArePixel}
use Rattle.script_read.specs.Forms.{command_kinds, max_words, node_kinds}
use Rattle.script_read.specs.Spelling.{arguments, fields_of, keyword, word_of}
use Rattle.script_read.specs.declared.command.Command.{Command}
use Rattle.script_read.specs.declared.command.Command.TheVariants.{Fill, Node, Render, Grab, Watch}
use Rattle.script_read.specs.declared.command.OpWords.{OpWords}
use Rattle.script_read.specs.declared.command.OpWords.TheVariants.{Source, Compute}
use Rattle.model_operations.specs.Inputs.{input_count as inputs_of}
use Rattle.model_operations.specs.declared.operation.IntOp.TheVariants.{Color}

-- how many inputs a node has
abbrev pub input_count : OpWords → ℕ
input_count (Source buffer) = 0
input_count (Compute op) = inputs_of op

-- ---- fields

-- the arguments of what a node does are of its kinds after its name and its operation
abbrev pub HasArguments : OpWords → Type 0
HasArguments op = AreOf (drop 2 (node_kinds (word_of op) max_words)) (arguments op)

-- the fields of a command are of its kinds
abbrev pub HasFields : Command → Type 0
HasFields command = AreOf (command_kinds (keyword command) max_words) (fields_of command)

-- ---- lists

-- samples are those of a pixel
abbrev pub HasPixel : OpWords → Type 0
HasPixel (Compute (Color format rect samples)) = ArePixel samples
HasPixel op = Unit {0}

-- the same of a command; and a node has its arguments and its inputs
abbrev pub HasLists : Command → Type 0
HasLists (Fill name rect samples) = ArePixel samples
HasLists (Node name op inputs) = HasArguments op × HasPixel op × (length inputs ≡ input_count op)
HasLists command = Unit {0}

-- ---- rectangles

-- a rectangle may be read at the level of its command, or watched by so many viewers
abbrev pub HasRectangle : Command → Type 0
HasRectangle (Render name level rect file) = IsTrue (is_some (scaled level rect))
HasRectangle (Grab name level policy rect file) = IsTrue (is_some (scaled level rect))
HasRectangle (Watch name rect viewers frames prefix) = IsTrue (may_watch viewers frames rect)
HasRectangle command = Unit {0}

-- The fields of a command and the arguments of a node are of their kinds, and so in their ranges; samples and inputs are
-- as many as they have to be, and a rectangle is one that the command may have.
pub record IsInLimits (command : Command) : Type 0 where
  pub fields : HasFields command
  pub lists : HasLists command
  pub rectangle : HasRectangle command
