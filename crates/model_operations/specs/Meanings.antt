-- What the fifteen operations mean, and a test that two of them are one.
use Rattle.std.specs.Prelude.{Bool, true, false, ◌&&◌, ◌==◌}
use Rattle.std.specs.Ordering.{int_eq}
use Rattle.std.specs.Str.{bytes_eq}
use Rattle.plane_rect.specs.Rectangle.{same_rectangle}
use Rattle.pixel_formats.specs.Format.{same_format}
use Rattle.pixel_formats.specs.declared.abyss.Abyss.{Abyss}
use Rattle.pixel_formats.specs.declared.abyss.Abyss.TheVariants as policies
use Rattle.model_operations.specs.Boxes.{box_of}
use Rattle.model_operations.specs.Formats.{format_of}
use Rattle.model_operations.specs.Inputs.{input_count}
use Rattle.model_operations.specs.Regions.{invalidated, required}
use Rattle.model_operations.specs.Values.{value_at}
use Rattle.model_operations.specs.declared.operation.IntOp.{IntOp}
use Rattle.model_operations.specs.declared.operation.IntOp.TheVariants.{Color, Checker, Convert, Invert, Threshold, Gain, Translate, Crop, Flip, BoxMean, Dilate, Erode, Add, Over, Mask}
use Rattle.model_graphs.specs.Meanings.{Meanings}

-- what the fifteen operations mean
abbrev pub int_meanings : Meanings IntOp
int_meanings =
    record {
      input_count = input_count;
      format = format_of;
      box = box_of;
      value = value_at;
      required = required;
      invalidated = invalidated;
    }

-- the operations that may stand through a mask: their result is in place of their first input
abbrev pub is_steady : IntOp → Bool
is_steady (Color format rect samples) = false
is_steady (Checker format rect size v1 v2) = false
is_steady (Translate dx dy) = false
is_steady (Flip sideways) = false
is_steady _ = true

-- two policies are one
abbrev pub same_policy : Abyss → Abyss → Bool
same_policy policies.None policies.None = true
same_policy policies.Clamp policies.Clamp = true
same_policy policies.Loop policies.Loop = true
same_policy policies.Black policies.Black = true
same_policy policies.White policies.White = true
same_policy _ _ = false

-- two directions are one
abbrev pub same_direction : Bool → Bool → Bool
same_direction true true = true
same_direction false false = true
same_direction _ _ = false

-- two operations are one, and have the same arguments
abbrev pub same_operation : IntOp → IntOp → Bool
same_operation (Color f r s) (Color g q t) = same_format f g && same_rectangle r q && bytes_eq s t
same_operation (Checker f r n a b) (Checker g q m c d) =
    same_format f g && same_rectangle r q && n == m && a == c && b == d
same_operation (Convert f) (Convert g) = same_format f g
same_operation Invert Invert = true
same_operation (Threshold a) (Threshold b) = a == b
same_operation (Gain a b) (Gain c d) = a == c && b == d
same_operation (Translate a b) (Translate c d) = int_eq a c && int_eq b d
same_operation (Crop r) (Crop q) = same_rectangle r q
same_operation (Flip a) (Flip b) = same_direction a b
same_operation (BoxMean n a) (BoxMean m b) = n == m && same_policy a b
same_operation (Dilate n a) (Dilate m b) = n == m && same_policy a b
same_operation (Erode n a) (Erode m b) = n == m && same_policy a b
same_operation Add Add = true
same_operation Over Over = true
same_operation Mask Mask = true
same_operation _ _ = false
