-- What an operation reads of an input for a part of its result, and what of its result a change of an input reaches.
use Rattle.std.specs.Prelude.{◌≡◌, ℕ, Bool, true, false, List}
use Rattle.plane_rect.specs.Rectangle.{Inside, Rectangle, meet}
use Rattle.model_images.specs.Abyss.{nearest}
use Rattle.pixel_formats.specs.declared.abyss.Abyss.{Abyss}
use Rattle.pixel_formats.specs.declared.abyss.Abyss.TheVariants.{Clamp}
use Rattle.model_operations.specs.Boxes.{result_box}
use Rattle.model_operations.specs.Inputs.{input_box}
use Rattle.model_operations.specs.Moves.{mirrored_part, moved, moved_back, moved_into, surrounded}
use Rattle.model_operations.specs.declared.operation.IntOp.{IntOp}
use Rattle.model_operations.specs.declared.operation.IntOp.TheVariants.{Translate, Flip, BoxMean, Dilate, Erode}

-- the positions that the windows of a part are read from, of an input of a box
abbrev pub area_read : ℕ → Abyss → Rectangle → Rectangle → Rectangle
area_read radius Clamp box part = moved_into box (surrounded radius part)
area_read radius _ box part = surrounded radius part

-- the positions that an operation reads for a part of its result, of an input of a box
abbrev pub read_for : IntOp → Rectangle → Rectangle → Rectangle
read_for (Translate dx dy) box part = moved_back dx dy part
read_for (Flip sideways) box part = mirrored_part sideways box part
read_for (BoxMean radius abyss) box part = area_read radius abyss box part
read_for (Dilate radius abyss) box part = area_read radius abyss box part
read_for (Erode radius abyss) box part = area_read radius abyss box part
read_for _ box part = part

-- the positions whose samples depend on a part of an input of a box
abbrev pub reached_from : IntOp → Rectangle → Rectangle → Rectangle
reached_from (Translate dx dy) box part = moved dx dy part
reached_from (Flip sideways) box part = mirrored_part sideways box part
reached_from (BoxMean radius abyss) box part = surrounded radius part
reached_from (Dilate radius abyss) box part = surrounded radius part
reached_from (Erode radius abyss) box part = surrounded radius part
reached_from _ box part = part

-- The positions of an input, counted from 0, that an operation needs for a region of its result.
abbrev pub required : IntOp → List Rectangle → ℕ → Rectangle → Rectangle
required op boxes i region =
    meet (read_for op (input_box boxes i) (meet region (result_box op boxes))) (input_box boxes i)

-- The positions of its result that may change where a region of an input changes.
abbrev pub invalidated : IntOp → List Rectangle → ℕ → Rectangle → Rectangle
invalidated op boxes i region =
    meet (reached_from op (input_box boxes i) (meet region (input_box boxes i))) (result_box op boxes)

-- each pixel of the result is of the pixels of the inputs at its own position
abbrev pub is_pointwise : IntOp → Bool
is_pointwise (Translate dx dy) = false
is_pointwise (Flip sideways) = false
is_pointwise (BoxMean radius abyss) = false
is_pointwise (Dilate radius abyss) = false
is_pointwise (Erode radius abyss) = false
is_pointwise _ = true

-- the position is the nearest of a box to some position of a rectangle
abbrev pub IsNearestTo : Rectangle → ℕ → ℕ → Rectangle → Type 0
IsNearestTo box u v r =
    (u' : ℕ) × (v' : ℕ) × Inside u' v' r × (u ≡ nearest box.first_column box.width u') × (v ≡ nearest box.first_row box.height v')
