-- Parts of images that are moved or mirrored.
use Rattle.std.specs.Prelude.{ℤ, min}
use Rattle.plane_rect.specs.Rectangle.{Rectangle, end_column, end_row, spanning}
use Rattle.model_operations.specs.Moves.{source_index}

-- what is in a box of the positions that a part is moved from
abbrev pub moved_source : ℤ → ℤ → Rectangle → Rectangle → Rectangle
moved_source dx dy box part =
    spanning
    (min (source_index dx part.first_column) (end_column box))
    (min (source_index dy part.first_row) (end_row box))
    (min (source_index dx (end_column part)) (end_column box))
    (min (source_index dy (end_row part)) (end_row box))
