-- The boxes of what operations give.
use Rattle.std.specs.Prelude.{ℕ, ◌==◌, if◌then◌else◌, List, length, Option, None, unwrap_or, Ok}
use Rattle.plane_rect.specs.Rectangle.{Rectangle, empty, grown, hull, if_in_limits, meet, shifted}
use Rattle.pixel_formats.specs.declared.abyss.Abyss.{Abyss}
use Rattle.pixel_formats.specs.declared.abyss.Abyss.TheVariants as policies
use Rattle.model_operations.specs.Inputs.{input_box, input_count}
use Rattle.model_operations.specs.declared.operation.IntOp.{IntOp}
use Rattle.model_operations.specs.declared.operation.IntOp.TheVariants.{Color, Checker, Convert, Invert, Threshold, Gain, Translate, Crop, Flip, BoxMean, Dilate, Erode, Add, Over, Mask}

-- a rectangle, where it is in the limits of an image
abbrev pub box_in_limits : Rectangle → Option Rectangle
box_in_limits r = if_in_limits (Ok r)

-- the box of an area operation: grown where nothing is read outside the input's, none where the input repeats
abbrev pub area_box : ℕ → Abyss → Rectangle → Option Rectangle
area_box radius policies.None box = if_in_limits (grown radius box)
area_box radius policies.Clamp box = box_in_limits box
area_box radius policies.Loop box = None
area_box radius policies.Black box = box_in_limits box
area_box radius policies.White box = box_in_limits box

-- the box that an operation gives of those of the first and the second input
abbrev pub box_with : IntOp → Rectangle → Rectangle → Option Rectangle
box_with (Color format rect samples) a b = box_in_limits rect
box_with (Checker format rect size v1 v2) a b = box_in_limits rect
box_with (Convert format) a b = box_in_limits a
box_with Invert a b = box_in_limits a
box_with (Threshold at) a b = box_in_limits a
box_with (Gain num den) a b = box_in_limits a
box_with (Translate dx dy) a b = if_in_limits (shifted dx dy a)
box_with (Crop rect) a b = box_in_limits (meet a rect)
box_with (Flip sideways) a b = box_in_limits a
box_with (BoxMean radius abyss) a b = area_box radius abyss a
box_with (Dilate radius abyss) a b = area_box radius abyss a
box_with (Erode radius abyss) a b = area_box radius abyss a
box_with Add a b = box_in_limits (hull a b)
box_with Over a b = box_in_limits (hull a b)
box_with Mask a b = box_in_limits (meet a b)

-- The box of what an operation gives of inputs of these boxes: none where their number is wrong, or where it is no
-- rectangle in the limits of an image.
abbrev pub box_of : IntOp → List Rectangle → Option Rectangle
box_of op boxes =
    if length boxes == input_count op then box_with op (input_box boxes 0) (input_box boxes 1) else None

-- the same, and no position where there is none
abbrev pub result_box : IntOp → List Rectangle → Rectangle
result_box op boxes = unwrap_or (box_of op boxes) empty
