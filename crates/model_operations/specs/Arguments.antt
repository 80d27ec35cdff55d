-- The arguments that operations take.
use Rattle.std.specs.Prelude.{Bool, true, ◌&&◌, nat_le}
use Rattle.pixel_formats.specs.Limits.{is_area, is_in, is_move, max_checker_size, max_factor}
use Rattle.model_operations.specs.declared.operation.IntOp.{IntOp}
use Rattle.model_operations.specs.declared.operation.IntOp.TheVariants.{Color, Checker, Convert, Invert, Threshold, Gain, Translate, Crop, Flip, BoxMean, Dilate, Erode, Add, Over, Mask}

-- the arguments are in their ranges; those of samples depend on the format
abbrev pub in_range : IntOp → Bool
in_range (Color format rect samples) = true
in_range (Checker format rect size v1 v2) = is_in 1 max_checker_size size
in_range (Convert format) = true
in_range Invert = true
in_range (Threshold at) = true
in_range (Gain num den) = nat_le num max_factor && is_in 1 max_factor den
in_range (Translate dx dy) = is_move dx && is_move dy
in_range (Crop rect) = true
in_range (Flip sideways) = true
in_range (BoxMean radius abyss) = is_area radius abyss
in_range (Dilate radius abyss) = is_area radius abyss
in_range (Erode radius abyss) = is_area radius abyss
in_range Add = true
in_range Over = true
in_range Mask = true
