-- The inputs of an operation, by their positions in a list.
use Rattle.std.specs.Prelude.{ℕ, List, slice_index_or}
use Rattle.plane_rect.specs.Rectangle.{Rectangle, empty}
use Rattle.pixel_formats.specs.declared.format.Format.{Format}
use Rattle.pixel_formats.specs.declared.format.Format.TheVariants.{Y8}
pub use Rattle.model_graphs.specs.Changes.{input_image}
pub use Rattle.model_graphs.specs.Meanings.{boxes_of, formats_of}
use Rattle.model_operations.specs.declared.operation.IntOp.{IntOp}
use Rattle.model_operations.specs.declared.operation.IntOp.TheVariants.{Color, Checker, Convert, Invert, Threshold, Gain, Translate, Crop, Flip, BoxMean, Dilate, Erode, Add, Over, Mask}

-- how many images an operation takes
abbrev pub input_count : IntOp → ℕ
input_count (Color format rect samples) = 0
input_count (Checker format rect size v1 v2) = 0
input_count (Convert format) = 1
input_count Invert = 1
input_count (Threshold at) = 1
input_count (Gain num den) = 1
input_count (Translate dx dy) = 1
input_count (Crop rect) = 1
input_count (Flip sideways) = 1
input_count (BoxMean radius abyss) = 1
input_count (Dilate radius abyss) = 1
input_count (Erode radius abyss) = 1
input_count Add = 2
input_count Over = 2
input_count Mask = 2

-- the box of an input
abbrev pub input_box : List Rectangle → ℕ → Rectangle
input_box boxes i = slice_index_or boxes i empty

-- the format of an input
abbrev pub input_format : List Format → ℕ → Format
input_format formats i = slice_index_or formats i Y8
