-- Rectangles by their rows.
use Rattle.std.specs.Prelude.{ℕ, ◌+◌}
use Rattle.plane_rect.specs.Rectangle.{Rectangle}

-- so many rows of a rectangle, from its top
abbrev pub first_rows : Rectangle → ℕ → Rectangle
first_rows r rows = record r { height = rows }

-- the row below so many
abbrev pub row_below : Rectangle → ℕ → Rectangle
row_below r rows = record r { first_row = r.first_row + rows; height = 1 }
