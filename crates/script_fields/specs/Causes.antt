-- The names of causes, as they are printed.
use Rattle.std.specs.Prelude.{ℕ, List, codes}
use Rattle.script_fields.specs.declared.cause.ScriptCause.{ScriptCause}
use Rattle.script_fields.specs.declared.cause.ScriptCause.TheVariants.{NotAscii, LineTooLong, TooManyLines, UnknownCommand, Words, Number, Name, Rect, Order}

-- the name of a cause
abbrev pub cause_word : ScriptCause → List ℕ
cause_word NotAscii = codes "NotAscii"
cause_word LineTooLong = codes "LineTooLong"
cause_word TooManyLines = codes "TooManyLines"
cause_word UnknownCommand = codes "UnknownCommand"
cause_word Words = codes "Words"
cause_word Number = codes "Number"
cause_word Name = codes "Name"
cause_word Rect = codes "Rect"
cause_word Order = codes "Order"
