-- What the edits make of tables.
use Rattle.std.specs.Prelude.{ℕ, ◌+◌, ◌-◌, if◌then◌else◌, List, map, slice_index, Option, Some, None, Result, Ok, Err}
use Rattle.std.specs.Str.{bytes_eq}
use Rattle.plane_rect.specs.declared.rect.RectRefused.{RectRefused}
use Rattle.plane_rect.specs.Rectangle.{Rectangle, shifted}
use Rattle.pixel_formats.specs.Row.{Pixel}
use Rattle.model_images.specs.Image.{Image, at}
use Rattle.model_images.specs.Paint.{blank, painted}
use Rattle.model_images.specs.FromRaw.{pixels_from_raw}
use Rattle.model_buffers.specs.declared.refused.EditRefused.{EditRefused}
use Rattle.model_buffers.specs.declared.edit.BufferEdit.{BufferEdit}
use Rattle.model_buffers.specs.declared.edit.BufferEdit.TheVariants.{Copy, Create, Duplicate, Fill, Put, Sub}
use Rattle.model_buffers.specs.BufferEdit.{Refusal, added, edit_refused, part_of}
use Rattle.model_buffers.specs.Layout.{View, find}
use Rattle.model_buffers.specs.Table.{Table, image_of, layout_of, root_image}

-- ---- samples

-- the same pixel at each position
abbrev pub evenly : List ℕ → ℕ → ℕ → Pixel
evenly samples u v c = slice_index samples c

-- the samples of an image over a rectangle, at the positions of the rectangle once it is moved
abbrev pub moved_samples : Image → Rectangle → Rectangle → ℕ → ℕ → Pixel
moved_samples image rectangle moved u v c = at image (rectangle.first_column + (u - moved.first_column)) (rectangle.first_row + (v - moved.first_row)) c

-- ---- parts of tables

-- the table with one root more, and a buffer of the root's name that sees an extent of it
abbrev pub with_root : Table → List ℕ → Image → Rectangle → Table
with_root table name image extent = record {
  roots = added table.roots name image;
  buffers = added table.buffers name (record { root = name; extent = extent });
}

-- the table with one buffer more, of a root that is there
abbrev pub with_view : Table → List ℕ → View → Table
with_view table name view = record { roots = table.roots; buffers = added table.buffers name view }

-- the table in which one root is painted with f's samples over a rectangle
abbrev pub written : Table → List ℕ → Rectangle → (ℕ → ℕ → Pixel) → Table
written table root rectangle f = record {
  roots = map (λ (entry : List ℕ × Image). (entry.0, if bytes_eq root entry.0 then painted entry.1 rectangle f else entry.1)) table.roots;
  buffers = table.buffers;
}

-- ---- edits that aren't refused

-- what is done by the view of a buffer, and nothing where there is none
abbrev pub by_view : Table → Option View → (View → Table) → Table
by_view table None after = table
by_view table (Some view) after = after view

-- what is done where a rectangle was moved
abbrev pub by_move : Table → Result Rectangle RectRefused → (Rectangle → Table) → Table
by_move table (Ok moved) after = after moved
by_move table (Err refused) after = table

-- The table after an edit that isn't refused. A new buffer has zeros on a root of its own. A sub-buffer is on the root
-- of its parent. A duplicate has an image equal to the whole root of the other buffer, and sees the other's extent of
-- it. Of a copy all samples are taken from the table as it is, and then written.
abbrev pub table_with : Table → BufferEdit → Table
table_with table (Create name format extent) = with_root table name (blank extent format) extent
table_with table (Sub name parent rectangle) =
    by_view table (find table.buffers parent) (λ view. with_view table name (part_of view rectangle))
table_with table (Duplicate name from) =
    by_view table (find table.buffers from) (λ view. with_root table name (root_image table view.root) view.extent)
table_with table (Fill name rectangle samples) =
    by_view table (find table.buffers name) (λ view. written table view.root rectangle (evenly samples))
table_with table (Put name rectangle bytes) =
    by_view table (find table.buffers name) (λ view.
    written table view.root rectangle (pixels_from_raw rectangle (root_image table view.root).format bytes))
table_with table (Copy from to rectangle dx dy) =
    by_view table (find table.buffers to) (λ target. by_move table (shifted dx dy rectangle) (λ moved.
    written table target.root moved (moved_samples (image_of table from) rectangle moved)))

-- ---- edits

-- what an edit of a table gives
abbrev pub Edited : Type 0
Edited = Result Table EditRefused

abbrev pub unless_refused : Refusal → Table → Edited
unless_refused None after = Ok after
unless_refused (Some refused) after = Err refused

-- the table after an edit, or the first cause why it is refused
abbrev pub edited_table : Table → BufferEdit → Edited
edited_table table edit = unless_refused (edit_refused (layout_of table) edit) (table_with table edit)
