-- The formats that operations take and give.
use Rattle.std.specs.Prelude.{ℕ, Bool, ◌&&◌, ◌==◌, nat_le, if◌then◌else◌, List, length, Option, Some, None}
use Rattle.std.specs.List.{list_all}
use Rattle.pixel_formats.specs.Format.{channels, depth, max_sample, has_alpha, same_format}
use Rattle.pixel_formats.specs.declared.format.Format.{Format}
use Rattle.model_operations.specs.Arguments.{in_range}
use Rattle.model_operations.specs.Inputs.{input_count, input_format}
use Rattle.model_operations.specs.declared.operation.IntOp.{IntOp}
use Rattle.model_operations.specs.declared.operation.IntOp.TheVariants.{Color, Checker, Convert, Invert, Threshold, Gain, Translate, Crop, Flip, BoxMean, Dilate, Erode, Add, Over, Mask}

-- the format is Y of the depth of another
abbrev pub is_mask_of : Format → Format → Bool
is_mask_of mask format = channels mask == 1 && depth mask == depth format

-- a pixel of the format may have the sample
abbrev pub is_sample : Format → ℕ → Bool
is_sample format sample = nat_le sample (max_sample format)

-- so many samples as the format has channels, none above the largest
abbrev pub are_samples : Format → List ℕ → Bool
are_samples format samples = length samples == channels format && list_all (is_sample format) samples

-- a format, where something holds
abbrev pub format_if : Bool → Format → Option Format
format_if holds format = if holds then Some format else None

-- the format that an operation gives of those of the first and the second input
abbrev pub format_with : IntOp → Format → Format → Option Format
format_with (Color format rect samples) a b = format_if (are_samples format samples) format
format_with (Checker format rect size v1 v2) a b = format_if (is_sample format v1 && is_sample format v2) format
format_with (Convert format) a b = Some format
format_with Invert a b = Some a
format_with (Threshold at) a b = format_if (is_sample a at) a
format_with (Gain num den) a b = Some a
format_with (Translate dx dy) a b = Some a
format_with (Crop rect) a b = Some a
format_with (Flip sideways) a b = Some a
format_with (BoxMean radius abyss) a b = Some a
format_with (Dilate radius abyss) a b = Some a
format_with (Erode radius abyss) a b = Some a
format_with Add a b = format_if (same_format a b) a
format_with Over a b = format_if (same_format a b && has_alpha a) a
format_with Mask a b = format_if (is_mask_of b a) a

-- The format of what an operation gives of inputs of these formats: none where their number or its arguments are
-- wrong, or where it does not take them.
abbrev pub format_of : IntOp → List Format → Option Format
format_of op formats =
    if length formats == input_count op && in_range op
    then format_with op (input_format formats 0) (input_format formats 1)
    else None
