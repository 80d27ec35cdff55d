-- The samples that operations give, at the positions of the result's box.
use Rattle.std.specs.Prelude.{ℕ, ◌+◌, ◌-◌, ◌*◌, ◌/◌, ◌%◌, ◌==◌, Bool, true, false, if◌then◌else◌, List, slice_index}
use Rattle.plane_rect.specs.Rectangle.{origin}
use Rattle.pixel_formats.specs.Add.{added_pixel}
use Rattle.pixel_formats.specs.Format.{max_sample}
use Rattle.pixel_formats.specs.Invert.{inverted_pixel}
use Rattle.pixel_formats.specs.Mask.{masked_pixel}
use Rattle.pixel_formats.specs.Over.{over_pixel}
use Rattle.pixel_formats.specs.Recolor.{is_alpha}
use Rattle.pixel_formats.specs.Row.{Pixel}
use Rattle.pixel_formats.specs.Threshold.{thresholded_pixel}
use Rattle.pixel_formats.specs.declared.format.Format.{Format}
use Rattle.model_images.specs.Image.{Image, at}
use Rattle.pixel_formats.specs.declared.abyss.Abyss.{Abyss}
use Rattle.pixel_formats.specs.Convert.{converted_pixel}
use Rattle.pixel_formats.specs.Gain.{gained_pixel}
use Rattle.model_operations.specs.Inputs.{input_image}
use Rattle.model_operations.specs.Moves.{source_index, mirrored}
use Rattle.model_operations.specs.Windows.{max_of_all, min_of_all, mean_of, window, window_side}
use Rattle.model_operations.specs.declared.operation.IntOp.{IntOp}
use Rattle.model_operations.specs.declared.operation.IntOp.TheVariants.{Color, Checker, Convert, Invert, Threshold, Gain, Translate, Crop, Flip, BoxMean, Dilate, Erode, Add, Over, Mask}

-- the number of a column's square, of so many pixels a side: the origin begins an even one
abbrev pub square_number : ℕ → ℕ → ℕ
square_number size u = (u + origin * size - origin) / size

-- the pixel of a checkerboard: one value in the squares of even sums and another beside them, and full alpha
abbrev pub checker_pixel : Format → ℕ → ℕ → ℕ → ℕ → ℕ → Pixel
checker_pixel format size v1 v2 u v =
    λ channel. if is_alpha format channel then max_sample format
    else if (square_number size u + square_number size v) % 2 == 0 then v1
    else v2

-- the pixel of an image that is mirrored in its box
abbrev pub flipped_pixel : Bool → Image → ℕ → ℕ → Pixel
flipped_pixel true image u v = at image (mirrored image.box.first_column image.box.width u) v
flipped_pixel false image u v = at image u (mirrored image.box.first_row image.box.height v)

-- the mean of the window, in each channel
abbrev pub box_mean_pixel : ℕ → Abyss → Image → ℕ → ℕ → Pixel
box_mean_pixel radius policy image u v =
    λ channel. mean_of (window_side radius * window_side radius) (window radius image policy u v channel)

-- the largest of the window, in each channel
abbrev pub dilated_pixel : ℕ → Abyss → Image → ℕ → ℕ → Pixel
dilated_pixel radius policy image u v = λ channel. max_of_all (window radius image policy u v channel)

-- the smallest of the window, in each channel
abbrev pub eroded_pixel : ℕ → Abyss → Image → ℕ → ℕ → Pixel
eroded_pixel radius policy image u v = λ channel. min_of_all (window radius image policy u v channel)

-- the pixel that an operation gives of the first and the second input, at a position of the result's box
abbrev pub value_with : IntOp → Image → Image → ℕ → ℕ → Pixel
value_with (Color format rect samples) a b u v = slice_index samples
value_with (Checker format rect size v1 v2) a b u v = checker_pixel format size v1 v2 u v
value_with (Convert format) a b u v = converted_pixel a.format format (at a u v)
value_with Invert a b u v = inverted_pixel a.format (at a u v)
value_with (Threshold level) a b u v = thresholded_pixel a.format level (at a u v)
value_with (Gain num den) a b u v = gained_pixel a.format num den (at a u v)
value_with (Translate dx dy) a b u v = at a (source_index dx u) (source_index dy v)
value_with (Crop rect) a b u v = at a u v
value_with (Flip sideways) a b u v = flipped_pixel sideways a u v
value_with (BoxMean radius abyss) a b u v = box_mean_pixel radius abyss a u v
value_with (Dilate radius abyss) a b u v = dilated_pixel radius abyss a u v
value_with (Erode radius abyss) a b u v = eroded_pixel radius abyss a u v
value_with Add a b u v = added_pixel a.format (at a u v) (at b u v)
value_with Over a b u v = over_pixel a.format (at a u v) (at b u v)
value_with Mask a b u v = masked_pixel a.format (at a u v) (at b u v 0)

-- the sample that an operation gives of these images for a column, a row and a channel of the result's box
abbrev pub value_at : IntOp → List Image → ℕ → ℕ → ℕ → ℕ
value_at op images u v c = value_with op (input_image images 0) (input_image images 1) u v c
