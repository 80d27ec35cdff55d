-- Parts of images that are mirrored.
use Rattle.std.specs.Prelude.{ℕ, ◌+◌, ◌-◌, ◌*◌, ◌/◌, ◌%◌, Bool, if◌then◌else◌, List, min, slice_range}
use Rattle.plane_rect.specs.Rectangle.{Rectangle, end_column, end_row, spanning}

-- as far before the end of some numbers as another is after the first, and the end at most
abbrev pub mirrored_end : ℕ → ℕ → ℕ → ℕ
mirrored_end first end n = min (first + end - n) end

-- what is in a box of the positions that become those of a part when mirrored in it
abbrev pub mirrored_source : Bool → Rectangle → Rectangle → Rectangle
mirrored_source sideways box part =
    if sideways
    then spanning
    (mirrored_end box.first_column (end_column box) (end_column part))
    part.first_row
    (mirrored_end box.first_column (end_column box) part.first_column)
    (end_row part)
    else spanning
    part.first_column
    (mirrored_end box.first_row (end_row box) (end_row part))
    (end_column part)
    (mirrored_end box.first_row (end_row box) part.first_row)

-- the index of the pixel of a rectangle that is mirrored in it: in its row, or in its column
abbrev pub flipped_index : Bool → Rectangle → ℕ → ℕ
flipped_index sideways r i =
    if sideways then i / r.width * r.width + (r.width - 1 - i % r.width) else (r.height - 1 - i / r.width) * r.width + i % r.width

-- of so many chunks of n bytes, the one of a number from the end
abbrev pub chunk_from_end : List ℕ → ℕ → ℕ → ℕ → List ℕ
chunk_from_end chunks n count number = slice_range chunks ((count - number) * n - n) ((count - number) * n)
