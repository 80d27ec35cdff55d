-- Rectangles by names: of roots what was written to them, of nodes their damage.
use Rattle.std.specs.Prelude.{ℕ, if◌then◌else◌, List, [], ◌∷◌, unwrap_or}
use Rattle.std.specs.Str.{bytes_eq}
use Rattle.std.specs.Map.{lookup}
use Rattle.plane_rect.specs.Rectangle.{Rectangle, empty, hull}

-- a rectangle for each name of a list, and the empty one for all others
abbrev pub Rectangles : Type 0
Rectangles = List (List ℕ × Rectangle)

abbrev pub rectangle_of : Rectangles → List ℕ → Rectangle
rectangle_of rectangles name = unwrap_or (lookup (bytes_eq name) rectangles) empty

-- with one rectangle more of a root: the hull with what is there, or last where nothing is
abbrev pub with_written : Rectangles → List ℕ → Rectangle → Rectangles
with_written [] root rectangle = (root, rectangle) ∷ []
with_written (entry ∷ entries) root rectangle =
    if bytes_eq root entry.0 then (entry.0, hull entry.1 rectangle) ∷ entries
    else entry ∷ with_written entries root rectangle
