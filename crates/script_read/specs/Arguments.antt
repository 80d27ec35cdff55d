-- The fields of a line, taken by their kinds and by their indices, from 0 on.
use Rattle.std.specs.Prelude.{ℕ, ℤ, ◌+◌, Bool, List, Option, Some, Result, Ok, Err, slice_get}
use Rattle.pixel_formats.specs.declared.abyss.Abyss.{Abyss}
use Rattle.pixel_formats.specs.declared.format.Format.{Format}
use Rattle.plane_rect.specs.Rectangle.{Rectangle}
use Rattle.script_fields.specs.Fields.{◌>>=◌, level_rect_of, rect_of, watched_rect_of}
use Rattle.script_fields.specs.declared.cause.ScriptCause.{ScriptCause}
use Rattle.script_fields.specs.declared.cause.ScriptCause.TheVariants as causes
use Rattle.script_fields.specs.declared.field.Field.{Field}
use Rattle.script_fields.specs.declared.field.Field.TheVariants as fields
use Rattle.script_fields.specs.declared.rectangles.RectNumbers.{RectNumbers}

-- ---- one field

abbrev pub name_of : Option Field → Result (List ℕ) ScriptCause
name_of (Some (fields.Name name)) = Ok name
name_of field = Err causes.Rect

abbrev pub file_of : Option Field → Result (List ℕ) ScriptCause
file_of (Some (fields.File name)) = Ok name
file_of field = Err causes.Rect

abbrev pub format_of : Option Field → Result Format ScriptCause
format_of (Some (fields.Format format)) = Ok format
format_of field = Err causes.Rect

abbrev pub policy_of : Option Field → Result Abyss ScriptCause
policy_of (Some (fields.Policy policy)) = Ok policy
policy_of field = Err causes.Rect

abbrev pub sideways_of : Option Field → Result Bool ScriptCause
sideways_of (Some (fields.Sideways sideways)) = Ok sideways
sideways_of field = Err causes.Rect

abbrev pub natural_of : Option Field → Result ℕ ScriptCause
natural_of (Some (fields.Natural value)) = Ok value
natural_of field = Err causes.Rect

abbrev pub integer_of : Option Field → Result ℤ ScriptCause
integer_of (Some (fields.Integer value)) = Ok value
integer_of field = Err causes.Rect

-- ---- the field at an index

abbrev pub name_at : List Field → ℕ → Result (List ℕ) ScriptCause
name_at all index = name_of (slice_get all index)

abbrev pub file_at : List Field → ℕ → Result (List ℕ) ScriptCause
file_at all index = file_of (slice_get all index)

abbrev pub format_at : List Field → ℕ → Result Format ScriptCause
format_at all index = format_of (slice_get all index)

abbrev pub policy_at : List Field → ℕ → Result Abyss ScriptCause
policy_at all index = policy_of (slice_get all index)

abbrev pub sideways_at : List Field → ℕ → Result Bool ScriptCause
sideways_at all index = sideways_of (slice_get all index)

abbrev pub natural_at : List Field → ℕ → Result ℕ ScriptCause
natural_at all index = natural_of (slice_get all index)

abbrev pub integer_at : List Field → ℕ → Result ℤ ScriptCause
integer_at all index = integer_of (slice_get all index)

-- ---- rectangles, by the index of the first of their numbers

abbrev pub numbers_at : List Field → ℕ → Result RectNumbers ScriptCause
numbers_at all index = do
  x ← integer_at all index
  y ← integer_at all (index + 1)
  w ← integer_at all (index + 2)
  h ← integer_at all (index + 3)
  Ok (record { x = x; y = y; w = w; h = h })

abbrev pub rect_at : List Field → ℕ → Result Rectangle ScriptCause
rect_at all index = numbers_at all index >>= rect_of

abbrev pub level_rect_at : List Field → ℕ → ℕ → Result Rectangle ScriptCause
level_rect_at all index level = numbers_at all index >>= level_rect_of level

abbrev pub watched_rect_at : List Field → ℕ → ℕ → ℕ → Result Rectangle ScriptCause
watched_rect_at all index viewers frames = numbers_at all index >>= watched_rect_of viewers frames
