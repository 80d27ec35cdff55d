-- The edits of tables of buffers, and what each asks of a layout and makes of it.
use Rattle.std.specs.Prelude.{◌≡◌, ℕ, ◌≤◌, ◌==◌, ◌&&◌, nat_le, Bool, if◌then◌else◌, ⊤, List, [], ◌∷◌, ◌++◌, length, Option, Some, None, Result, Ok, Err}
use Rattle.std.specs.List.{All, list_all}
use Rattle.std.specs.Option.{is_some, option_map}
use Rattle.plane_rect.specs.declared.rect.RectRefused.{RectRefused}
use Rattle.plane_rect.specs.Rectangle.{Rectangle, IsRectangle, InLimits, includes, meet, shifted}
use Rattle.pixel_formats.specs.Limits.{max_buffers}
use Rattle.pixel_formats.specs.declared.format.Format.{Format}
use Rattle.pixel_formats.specs.Format.{channels, max_sample, same_format}
use Rattle.model_graphs.specs.Shapes.{Shape}
use Rattle.model_images.specs.FromRaw.{byte_count}
use Rattle.model_buffers.specs.declared.edit.BufferEdit.{BufferEdit}
use Rattle.model_buffers.specs.declared.edit.BufferEdit.TheVariants.{Copy, Create, Duplicate, Fill, Put, Sub}
use Rattle.model_buffers.specs.declared.refused.EditRefused.{EditRefused}
use Rattle.model_buffers.specs.declared.refused.EditRefused.TheVariants.{UnknownBuffer, NameTaken, OutOfBounds, WrongSize, Formats, TooManyBuffers}
use Rattle.model_buffers.specs.Layout.{TableLayout, View, find, root_named, root_shape, view_shape}

-- the rectangles of an edit are rectangles of the plane, and that of a new buffer is in limits
abbrev pub IsProperEdit : BufferEdit → Type 0
IsProperEdit (Create name format extent) = IsRectangle extent × InLimits extent
IsProperEdit (Sub name parent rectangle) = IsRectangle rectangle
IsProperEdit (Duplicate name from) = ⊤
IsProperEdit (Fill name rectangle samples) = ⊤
IsProperEdit (Put name rectangle bytes) = ⊤
IsProperEdit (Copy from to rectangle dx dy) = ⊤

-- ---- why an edit is refused

-- the first cause, or none
abbrev pub Refusal : Type 0
Refusal = Option EditRefused

-- this cause where a test fails, else the next one
abbrev pub unless : Bool → EditRefused → Refusal → Refusal
unless passed refused next = if passed then next else Some refused

-- of a buffer that must be there
abbrev pub if_known : Option View → (View → Refusal) → Refusal
if_known None next = Some UnknownBuffer
if_known (Some view) next = next view

-- of a rectangle after a move, where that must be one
abbrev pub if_moved : Result Rectangle RectRefused → (Rectangle → Refusal) → Refusal
if_moved (Ok rectangle) next = next rectangle
if_moved (Err refused) next = Some OutOfBounds

-- of a name that must be new, in a table that must have room
abbrev pub add_refused : TableLayout → List ℕ → Refusal
add_refused layout name =
    if is_some (find layout.buffers name) then Some NameTaken
    else if nat_le max_buffers (length layout.buffers) then Some TooManyBuffers
    else None

-- a sample for each channel of a format, none above the largest
abbrev pub is_pixel : Format → List ℕ → Bool
is_pixel format samples = length samples == channels format && list_all (λ sample. nat_le sample (max_sample format)) samples

-- the same as a fact
abbrev pub IsPixel : Format → List ℕ → Type 0
IsPixel format samples = (length samples ≡ channels format) × All (λ sample. sample ≤ max_sample format) samples

abbrev pub fill_refused : Shape → Rectangle → List ℕ → Refusal
fill_refused shape rectangle samples =
    unless (includes shape.box rectangle) OutOfBounds (unless (is_pixel shape.format samples) Formats None)

abbrev pub put_refused : Shape → Rectangle → List ℕ → Refusal
put_refused shape rectangle bytes =
    let wanted = byte_count rectangle shape.format in
    unless (includes shape.box rectangle) OutOfBounds
    (unless (length bytes == wanted) (WrongSize (length bytes) wanted) None)

abbrev pub copy_refused : Shape → Shape → Rectangle → Result Rectangle RectRefused → Refusal
copy_refused source target rectangle moved =
    unless (includes source.box rectangle) OutOfBounds (if_moved moved (λ there.
    unless (includes target.box there) OutOfBounds (unless (same_format source.format target.format) Formats None)))

-- Why an edit is refused: the first cause in this order, or none.
abbrev pub edit_refused : TableLayout → BufferEdit → Refusal
edit_refused layout (Create name format extent) = add_refused layout name
edit_refused layout (Sub name parent rectangle) = if_known (find layout.buffers parent) (λ view. add_refused layout name)
edit_refused layout (Duplicate name from) = if_known (find layout.buffers from) (λ view. add_refused layout name)
edit_refused layout (Fill name rectangle samples) =
    if_known (find layout.buffers name) (λ view. fill_refused (view_shape layout view) rectangle samples)
edit_refused layout (Put name rectangle bytes) =
    if_known (find layout.buffers name) (λ view. put_refused (view_shape layout view) rectangle bytes)
edit_refused layout (Copy from to rectangle dx dy) =
    if_known (find layout.buffers from) (λ source. if_known (find layout.buffers to) (λ target.
    copy_refused (view_shape layout source) (view_shape layout target) rectangle (shifted dx dy rectangle)))

-- ---- the layout after an edit

-- the part of what a view shows that is in a rectangle
abbrev pub part_of : View → Rectangle → View
part_of view rectangle = record { root = view.root; extent = meet rectangle view.extent }

-- a list with an entry more, the last
abbrev pub added : {X : Type 0} → List (List ℕ × X) → List ℕ → X → List (List ℕ × X)
added entries name value = entries ++ (name, value) ∷ []

-- the layout with one root more, and a buffer of the root's name that sees an extent of it
abbrev pub layout_with_root : TableLayout → List ℕ → Shape → Rectangle → TableLayout
layout_with_root layout name shape extent = record {
  roots = added layout.roots name shape;
  buffers = added layout.buffers name (record { root = name; extent = extent });
}

abbrev pub layout_with_part : TableLayout → List ℕ → Rectangle → Option View → TableLayout
layout_with_part layout name rectangle None = layout
layout_with_part layout name rectangle (Some view) = record layout { buffers = added layout.buffers name (part_of view rectangle) }

abbrev pub layout_with_duplicate : TableLayout → List ℕ → Option View → TableLayout
layout_with_duplicate layout name None = layout
layout_with_duplicate layout name (Some view) = layout_with_root layout name (root_shape layout view.root) view.extent

-- The layout after an edit that isn't refused: samples that are written change nothing of it.
abbrev pub layout_with : TableLayout → BufferEdit → TableLayout
layout_with layout (Create name format extent) = layout_with_root layout name (record { box = extent; format = format }) extent
layout_with layout (Sub name parent rectangle) = layout_with_part layout name rectangle (find layout.buffers parent)
layout_with layout (Duplicate name from) = layout_with_duplicate layout name (find layout.buffers from)
layout_with layout (Fill name rectangle samples) = layout
layout_with layout (Put name rectangle bytes) = layout
layout_with layout (Copy from to rectangle dx dy) = layout

-- ---- what an edit writes

-- a rectangle of the root of a buffer
abbrev pub on_root : TableLayout → List ℕ → Result Rectangle RectRefused → Option (List ℕ × Rectangle)
on_root layout name (Ok rectangle) = option_map (λ root. (root, rectangle)) (root_named layout name)
on_root layout name (Err refused) = None

-- the root that an edit writes to, and where: none for a buffer more
abbrev pub written_by : TableLayout → BufferEdit → Option (List ℕ × Rectangle)
written_by layout (Create name format extent) = None
written_by layout (Sub name parent rectangle) = None
written_by layout (Duplicate name from) = None
written_by layout (Fill name rectangle samples) = on_root layout name (Ok rectangle)
written_by layout (Put name rectangle bytes) = on_root layout name (Ok rectangle)
written_by layout (Copy from to rectangle dx dy) = on_root layout to (shifted dx dy rectangle)
