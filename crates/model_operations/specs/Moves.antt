-- Positions and rectangles moved, mirrored and surrounded. Columns and rows count from the plane's corner, and what
-- would be before it is moved to it.
use Rattle.std.specs.Prelude.{ℕ, ◌+◌, ◌-◌, ◌*◌, ◌||◌, Bool, if◌then◌else◌, ℤ, pos, negsuc}
use Rattle.plane_rect.specs.Rectangle.{Rectangle, end_row, empty, is_empty, rectangle, end_column, spanning}
use Rattle.model_images.specs.Abyss.{nearest}
use Rattle.model_graphs.specs.Laws.{unit_rectangle}

-- the rectangle of one position
abbrev pub position : ℕ → ℕ → Rectangle
position u v = unit_rectangle u v

-- the column so much further right, or left by what is negative; or the row so
abbrev pub moved_index : ℤ → ℕ → ℕ
moved_index (pos n) u = u + n
moved_index (negsuc n) u = u - (n + 1)

-- the column from which one so moved came
abbrev pub source_index : ℤ → ℕ → ℕ
source_index (pos n) u = u - n
source_index (negsuc n) u = u + (n + 1)

-- the rectangle moved
abbrev pub moved : ℤ → ℤ → Rectangle → Rectangle
moved dx dy r = rectangle (moved_index dx r.first_column) (moved_index dy r.first_row) r.width r.height

-- the rectangle from which one so moved came
abbrev pub moved_back : ℤ → ℤ → Rectangle → Rectangle
moved_back dx dy r = rectangle (source_index dx r.first_column) (source_index dy r.first_row) r.width r.height

-- the number that is as far from the last of len numbers from start on as another from the first
abbrev pub mirrored : ℕ → ℕ → ℕ → ℕ
mirrored start len n = 2 * start + len - 1 - n

-- the first of n numbers in a row, mirrored
abbrev pub mirrored_start : ℕ → ℕ → ℕ → ℕ → ℕ
mirrored_start start len first n = 2 * start + len - (first + n)

-- a part of a box, mirrored in it: left and right if sideways, else top and bottom
abbrev pub mirrored_part : Bool → Rectangle → Rectangle → Rectangle
mirrored_part sideways box part =
    if sideways
    then rectangle (mirrored_start box.first_column box.width part.first_column part.width) part.first_row part.width part.height
    else rectangle part.first_column (mirrored_start box.first_row box.height part.first_row part.height) part.width part.height

-- the rectangle with so many more positions on each side: an empty one stays
abbrev pub surrounded : ℕ → Rectangle → Rectangle
surrounded by r =
    if is_empty r then empty else spanning (r.first_column - by) (r.first_row - by) (end_column r + by) (end_row r + by)

-- from the position of a box that is nearest to a rectangle's first to the one that is nearest to its last
abbrev pub moved_into : Rectangle → Rectangle → Rectangle
moved_into box r =
    if is_empty box || is_empty r then empty
    else spanning
    (nearest box.first_column box.width r.first_column)
    (nearest box.first_row box.height r.first_row)
    (nearest box.first_column box.width (end_column r - 1) + 1)
    (nearest box.first_row box.height (end_row r - 1) + 1)
