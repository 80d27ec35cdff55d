-- When each edit is carried out, and when each of its refusals comes: no two of these facts hold at once.
use Rattle.std.specs.Prelude.{◌≡◌, ◌≢◌, ℕ, ◌<◌, ◌≤◌, ◌⊎◌, ℤ, List, length, None, IsSome, Result, Ok, Err}
use Rattle.plane_rect.specs.declared.rect.RectRefused.{RectRefused}
use Rattle.plane_rect.specs.Rectangle.{Rectangle, Includes, shifted}
use Rattle.pixel_formats.specs.Limits.{max_buffers}
use Rattle.model_images.specs.FromRaw.{byte_count}
use Rattle.model_buffers.specs.declared.refused.EditRefused.{EditRefused}
use Rattle.model_buffers.specs.declared.refused.EditRefused.TheVariants.{UnknownBuffer, NameTaken, OutOfBounds, WrongSize, Formats, TooManyBuffers}
use Rattle.model_buffers.specs.declared.edit.BufferEdit.{BufferEdit}
use Rattle.model_buffers.specs.declared.edit.BufferEdit.TheVariants.{Copy, Create, Duplicate, Fill, Put, Sub}
use Rattle.model_buffers.specs.BufferEdit.{IsPixel}
use Rattle.model_buffers.specs.Layout.{TableLayout, find, buffer_shape}

-- a buffer has the name
abbrev pub IsKnown : TableLayout → List ℕ → Type 0
IsKnown layout name = IsSome (find layout.buffers name)

-- none has
abbrev pub IsUnknown : TableLayout → List ℕ → Type 0
IsUnknown layout name = find layout.buffers name ≡ None

-- ---- a new name

-- it is new, and there is room for it
abbrev pub IsAddable : TableLayout → List ℕ → Type 0
IsAddable layout name = IsUnknown layout name × (length layout.buffers < max_buffers)

abbrev pub AddRefused : TableLayout → List ℕ → EditRefused → Type 0
AddRefused layout name NameTaken = IsKnown layout name
AddRefused layout name TooManyBuffers = IsUnknown layout name × (max_buffers ≤ length layout.buffers)
AddRefused layout name _ = ⊥

-- the same where another buffer must be there
abbrev pub AddFromRefused : TableLayout → List ℕ → List ℕ → EditRefused → Type 0
AddFromRefused layout name from UnknownBuffer = IsUnknown layout from
AddFromRefused layout name from refused = IsKnown layout from × AddRefused layout name refused

-- ---- a rectangle of a buffer

-- each position of the rectangle is one of the buffer
abbrev pub HasPositions : TableLayout → List ℕ → Rectangle → Type 0
HasPositions layout name rectangle = IsKnown layout name × Includes (buffer_shape layout name).box rectangle

-- the buffer is there, and lacks some position
abbrev pub LacksPositions : TableLayout → List ℕ → Rectangle → Type 0
LacksPositions layout name rectangle = IsKnown layout name × ¬ Includes (buffer_shape layout name).box rectangle

abbrev pub IsFillable : TableLayout → List ℕ → Rectangle → List ℕ → Type 0
IsFillable layout name rectangle samples = HasPositions layout name rectangle × IsPixel (buffer_shape layout name).format samples

abbrev pub FillRefused : TableLayout → List ℕ → Rectangle → List ℕ → EditRefused → Type 0
FillRefused layout name rectangle samples UnknownBuffer = IsUnknown layout name
FillRefused layout name rectangle samples OutOfBounds = LacksPositions layout name rectangle
FillRefused layout name rectangle samples Formats = HasPositions layout name rectangle × ¬ IsPixel (buffer_shape layout name).format samples
FillRefused layout name rectangle samples _ = ⊥

-- the bytes of the rectangle in the buffer's format
abbrev pub wanted_bytes : TableLayout → List ℕ → Rectangle → ℕ
wanted_bytes layout name rectangle = byte_count rectangle (buffer_shape layout name).format

abbrev pub IsPuttable : TableLayout → List ℕ → Rectangle → List ℕ → Type 0
IsPuttable layout name rectangle bytes = HasPositions layout name rectangle × (length bytes ≡ wanted_bytes layout name rectangle)

abbrev pub PutRefused : TableLayout → List ℕ → Rectangle → List ℕ → EditRefused → Type 0
PutRefused layout name rectangle bytes UnknownBuffer = IsUnknown layout name
PutRefused layout name rectangle bytes OutOfBounds = LacksPositions layout name rectangle
PutRefused layout name rectangle bytes (WrongSize found wanted) =
    HasPositions layout name rectangle × (length bytes ≢ wanted_bytes layout name rectangle) × (found ≡ length bytes) × (wanted ≡ wanted_bytes layout name rectangle)
PutRefused layout name rectangle bytes _ = ⊥

-- ---- a rectangle of a buffer, and one of another or the same

-- after the move there is a rectangle, and the buffer contains it
abbrev pub HasMoved : TableLayout → List ℕ → Result Rectangle RectRefused → Type 0
HasMoved layout name (Ok moved) = Includes (buffer_shape layout name).box moved
HasMoved layout name (Err refused) = ⊥

abbrev pub HasBoth : TableLayout → List ℕ → List ℕ → Rectangle → ℤ → ℤ → Type 0
HasBoth layout from to rectangle dx dy =
    HasPositions layout from rectangle × IsKnown layout to × HasMoved layout to (shifted dx dy rectangle)

abbrev pub IsCopyable : TableLayout → List ℕ → List ℕ → Rectangle → ℤ → ℤ → Type 0
IsCopyable layout from to rectangle dx dy =
    HasBoth layout from to rectangle dx dy × ((buffer_shape layout from).format ≡ (buffer_shape layout to).format)

abbrev pub CopyRefused : TableLayout → List ℕ → List ℕ → Rectangle → ℤ → ℤ → EditRefused → Type 0
CopyRefused layout from to rectangle dx dy UnknownBuffer = IsUnknown layout from ⊎ IsUnknown layout to
CopyRefused layout from to rectangle dx dy OutOfBounds = IsKnown layout from × IsKnown layout to × ¬ HasBoth layout from to rectangle dx dy
CopyRefused layout from to rectangle dx dy Formats =
    HasBoth layout from to rectangle dx dy × ((buffer_shape layout from).format ≢ (buffer_shape layout to).format)
CopyRefused layout from to rectangle dx dy _ = ⊥

-- ---- each edit

-- an edit is carried out
abbrev pub IsCarriedOut : TableLayout → BufferEdit → Type 0
IsCarriedOut layout (Create name format extent) = IsAddable layout name
IsCarriedOut layout (Sub name parent rectangle) = IsKnown layout parent × IsAddable layout name
IsCarriedOut layout (Duplicate name from) = IsKnown layout from × IsAddable layout name
IsCarriedOut layout (Fill name rectangle samples) = IsFillable layout name rectangle samples
IsCarriedOut layout (Put name rectangle bytes) = IsPuttable layout name rectangle bytes
IsCarriedOut layout (Copy from to rectangle dx dy) = IsCopyable layout from to rectangle dx dy

-- an edit is refused by a cause
abbrev pub IsRefused : TableLayout → BufferEdit → EditRefused → Type 0
IsRefused layout (Create name format extent) = AddRefused layout name
IsRefused layout (Sub name parent rectangle) = AddFromRefused layout name parent
IsRefused layout (Duplicate name from) = AddFromRefused layout name from
IsRefused layout (Fill name rectangle samples) = FillRefused layout name rectangle samples
IsRefused layout (Put name rectangle bytes) = PutRefused layout name rectangle bytes
IsRefused layout (Copy from to rectangle dx dy) = CopyRefused layout from to rectangle dx dy
