-- Small tables, on which the edits are worked out by hand.
use Rattle.std.specs.Prelude.{ℕ, pos, List, [], ◌∷◌, map, replicate, codes, Option, None, Ok, Err}
use Rattle.std.specs.List.{range_with_len}
use Rattle.plane_rect.specs.Rectangle.{Rectangle, placed}
use Rattle.pixel_formats.specs.Limits.{max_buffers}
use Rattle.pixel_formats.specs.declared.format.Format.TheVariants.{Y8, RGB8}
use Rattle.model_images.specs.Image.{Image}
use Rattle.model_images.specs.Abyss.{raw_with}
use Rattle.pixel_formats.specs.declared.abyss.Abyss.TheVariants as abyss
use Rattle.model_images.specs.Examples.{positions_from}
use Rattle.model_images.specs.Paint.{no_image}
use Rattle.model_graphs.specs.Facts.{Facts}
use Rattle.model_graphs.specs.declared.buffer.BufferFact.{BufferFact}
use Rattle.model_buffers.specs.BufferEdit.{Refusal, edit_refused, written_by}
use Rattle.model_buffers.specs.Layout.{facts_of}
use Rattle.model_buffers.specs.declared.edit.BufferEdit.{BufferEdit}
use Rattle.model_buffers.specs.declared.edit.BufferEdit.TheVariants.{Create, Duplicate, Fill, Put, Sub}
use Rattle.model_buffers.specs.Edits.{Edited, edited_table}
use Rattle.model_buffers.specs.Table.{Table, image_of, layout_of, no_buffers}

-- names of buffers
abbrev pub first_name : List ℕ
first_name = codes "a"

abbrev pub second_name : List ℕ
second_name = codes "b"

-- an edit of the table that another edit gave
abbrev pub and_then : Edited → (Table → Edited) → Edited
and_then (Ok table) edit = edit table
and_then (Err refused) edit = Err refused

-- the bytes of a rectangle of a buffer, which are 0 outside its extent
abbrev pub bytes_of : Edited → List ℕ → Rectangle → List ℕ
bytes_of (Ok table) name rectangle = raw_with (image_of table name) abyss.None rectangle
bytes_of (Err refused) name rectangle = []

-- the image of a buffer
abbrev pub image_after : Edited → List ℕ → Image
image_after (Ok table) name = image_of table name
image_after (Err refused) name = no_image

-- a table of a buffer of zeros
abbrev pub zeros_over : Rectangle → Edited
zeros_over extent = edited_table no_buffers (Create first_name Y8 extent)

-- a buffer of two positions of 10, its duplicate, and then 20 in its first position
abbrev pub duplicate_then_fill : Edited
duplicate_then_fill =
    and_then (and_then (and_then (zeros_over (positions_from (pos 0) 2))
    (λ table. edited_table table (Fill first_name (positions_from (pos 0) 2) (10 ∷ []))))
    (λ table. edited_table table (Duplicate second_name first_name)))
    (λ table. edited_table table (Fill first_name (positions_from (pos 0) 1) (20 ∷ [])))

-- the same, and then 30 in the second position of the duplicate
abbrev pub duplicate_filled : Edited
duplicate_filled = and_then duplicate_then_fill (λ table. edited_table table (Fill second_name (positions_from (pos 1) 1) (30 ∷ [])))

-- four positions of zeros, and a sub-buffer of nine positions from the second on
abbrev pub part_of_four : Edited
part_of_four = and_then (zeros_over (positions_from (pos 0) 4)) (λ table. edited_table table (Sub second_name first_name (positions_from (pos 1) 9)))

-- three positions of 1, 2 and 3
abbrev pub one_two_three : Edited
one_two_three = and_then (zeros_over (positions_from (pos 0) 3)) (λ table. edited_table table (Put first_name (positions_from (pos 0) 3) (1 ∷ 2 ∷ 3 ∷ [])))

-- two rows of two positions, 1 and 2 above 3 and 4
abbrev pub two_rows : Edited
two_rows = and_then (zeros_over (placed (pos 0) (pos 0) 2 2)) (λ table. edited_table table (Put first_name (placed (pos 0) (pos 0) 2 2) (1 ∷ 2 ∷ 3 ∷ 4 ∷ [])))

-- the right column of two rows
abbrev pub right_column : Rectangle
right_column = placed (pos 1) (pos 0) 1 2

-- two rows, and a sub-buffer of the right column
abbrev pub column_of_two_rows : Edited
column_of_two_rows = and_then two_rows (λ table. edited_table table (Sub second_name first_name right_column))

-- two rows, whose right column is 9 by its sub-buffer
abbrev pub nines_by_column : Edited
nines_by_column = and_then column_of_two_rows (λ table. edited_table table (Fill second_name right_column (9 ∷ [])))

-- one position of three channels
abbrev pub one_color : Edited
one_color = edited_table no_buffers (Create first_name RGB8 (positions_from (pos 0) 1))

-- a table of 64 buffers, whose names are of 1 to 64 bytes
abbrev pub full_table : Table
full_table = record {
  roots = [];
  buffers = map (λ (n : ℕ). (replicate n 97, record { root = first_name; extent = positions_from (pos 0) 1 })) (range_with_len 1 max_buffers);
}

-- what a graph knows of the buffers of a table
abbrev pub facts_after : Edited → Facts
facts_after (Ok table) = facts_of (layout_of table)
facts_after (Err refused) = []

-- a buffer of 8 bits on the first root, of so many positions from an x on
abbrev pub fact_of_row : List ℕ → ℕ → ℕ → BufferFact
fact_of_row name x width = record { name = name; root = first_name; bounds = positions_from (pos x) width; format = Y8 }

-- what an edit writes to a table
abbrev pub written_after : Edited → BufferEdit → Option (List ℕ × Rectangle)
written_after (Ok table) edit = written_by (layout_of table) edit
written_after (Err refused) edit = None

-- why an edit of a table is refused
abbrev pub refused_after : Edited → BufferEdit → Refusal
refused_after (Ok table) edit = edit_refused (layout_of table) edit
refused_after (Err refused) edit = None
