-- What `minus` gives.
use Rattle.std.specs.Prelude.{◌-◌, List, ◌++◌, length, replicate}
use Rattle.plane_rect.specs.Rectangle.{Rectangle, empty}
use Rattle.plane_rect.specs.declared.sets.Parts.{Parts}

-- up to four rectangles in an array, and empty ones after them
abbrev pub parts_of : List Rectangle → Parts
parts_of rectangles =
    record { count = length rectangles; parts = rectangles ++ replicate (4 - length rectangles) empty }
