-- Small images and what operations give of them, for examples that are worked out by hand.
use Rattle.std.specs.Prelude.{ℕ, ℤ, pos, ◌-◌, ◌+◌, ◌*◌, List}
use Rattle.plane_rect.specs.Rectangle.{Rectangle, plane_index}
use Rattle.pixel_formats.specs.declared.format.Format.{Format}
use Rattle.model_images.specs.Image.{Image}
use Rattle.model_images.specs.Raw.{raw}
use Rattle.model_images.specs.Examples.{row_image}
use Rattle.model_operations.specs.Boxes.{result_box}
use Rattle.model_operations.specs.Inputs.{boxes_of}
use Rattle.model_operations.specs.Results.{result_of}
use Rattle.model_operations.specs.declared.operation.IntOp.{IntOp}

-- the bytes of the whole of a result
abbrev pub whole : IntOp → List Image → List ℕ
whole op images = raw (result_of op images) (result_box op (boxes_of images))

-- one pixel of these samples, at the origin
abbrev pub color : Format → List ℕ → Image
color format samples = row_image format (pos 0) 1 samples

-- the square of so many positions on each side of a position
abbrev pub square_around : ℕ → ℤ → ℤ → Rectangle
square_around by x y =
    record { first_column = plane_index x - by; first_row = plane_index y - by; width = 2 * by + 1; height = 2 * by + 1 }
