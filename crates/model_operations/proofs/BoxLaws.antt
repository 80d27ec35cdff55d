-- Boxes in limits, and the inverse of an image.
use Rattle.std.proofs.Common.{◌≡◌, ℕ, Bool, true, false, cond, eqb, List, [], ◌∷◌, length, Option, Some, None, Result, Ok, Err, refl, subst, arith}
use Rattle.std.proofs.lemmas.Bool.Decides.{nat_tests}
use Rattle.plane_rect.specs.Rectangle.{InLimits, Rectangle, grown, hull, in_limits, if_in_limits, meet, shifted}
use Rattle.plane_rect.specs.declared.rect.RectRefused.{RectRefused}
use Rattle.model_images.specs.Image.{Image}
use Rattle.model_images.specs.Paint.{inverted_image}
use Rattle.pixel_formats.specs.declared.abyss.Abyss.{Abyss}
use Rattle.pixel_formats.specs.declared.abyss.Abyss.TheVariants as policies
use Rattle.model_operations.specs.Boxes.{area_box, box_of, box_with}
use Rattle.model_operations.specs.Inputs.{input_box, input_count}
use Rattle.model_operations.specs.Results.{result_of}
use Rattle.model_operations.specs.declared.operation.IntOp.{IntOp}
use Rattle.model_operations.specs.declared.operation.IntOp.TheVariants.{Color, Checker, Convert, Invert, Threshold, Gain, Translate, Crop, Flip, BoxMean, Dilate, Erode, Add, Over, Mask}

limits-from : (r : Rectangle) → in_limits r ≡ true → InLimits r
limits-from r h = grind (arith, nat_tests)

limits-if : (b : Bool) (q r : Rectangle) → in_limits q ≡ b → cond b (Some q) None ≡ Some r → InLimits r
limits-if true q r known e = let is : q ≡ r = cc in subst InLimits is (limits-from q known)
limits-if false q r known e = absurd (cc e)

limited-limits : (made : Result Rectangle RectRefused) (r : Rectangle) → if_in_limits made ≡ Some r → InLimits r
limited-limits (Ok q) r e = limits-if (in_limits q) q r refl e
limited-limits (Err refused) r e = absurd (cc e)

area-limits : (radius : ℕ) (policy : Abyss) (box r : Rectangle) → area_box radius policy box ≡ Some r → InLimits r
area-limits radius policies.None box r e = limited-limits (grown radius box) r e
area-limits radius policies.Clamp box r e = limited-limits (Ok box) r e
area-limits radius policies.Loop box r e = absurd (cc e)
area-limits radius policies.Black box r e = limited-limits (Ok box) r e
area-limits radius policies.White box r e = limited-limits (Ok box) r e

with-limits : (op : IntOp) (a b r : Rectangle) → box_with op a b ≡ Some r → InLimits r
with-limits (Color f rect samples) a b r e = limited-limits (Ok rect) r e
with-limits (Checker f rect size v1 v2) a b r e = limited-limits (Ok rect) r e
with-limits (Convert f) a b r e = limited-limits (Ok a) r e
with-limits Invert a b r e = limited-limits (Ok a) r e
with-limits (Threshold level) a b r e = limited-limits (Ok a) r e
with-limits (Gain num den) a b r e = limited-limits (Ok a) r e
with-limits (Translate dx dy) a b r e = limited-limits (shifted dx dy a) r e
with-limits (Crop rect) a b r e = limited-limits (Ok (meet a rect)) r e
with-limits (Flip sideways) a b r e = limited-limits (Ok a) r e
with-limits (BoxMean radius abyss) a b r e = area-limits radius abyss a r e
with-limits (Dilate radius abyss) a b r e = area-limits radius abyss a r e
with-limits (Erode radius abyss) a b r e = area-limits radius abyss a r e
with-limits Add a b r e = limited-limits (Ok (hull a b)) r e
with-limits Over a b r e = limited-limits (Ok (hull a b)) r e
with-limits Mask a b r e = limited-limits (Ok (meet a b)) r e

stated-box : (b : Bool) (stated : Option Rectangle) (r : Rectangle) → cond b stated None ≡ Some r → stated ≡ Some r
stated-box true stated r e = e
stated-box false stated r e = absurd (cc e)

pub box-limits : (op : IntOp) (boxes : List Rectangle) (box : Rectangle) → box_of op boxes ≡ Some box → InLimits box
box-limits op boxes box stated =
    with-limits op (input_box boxes 0) (input_box boxes 1) box (stated-box (eqb (length boxes) (input_count op)) _ box stated)

limits-true : (r : Rectangle) → InLimits r → in_limits r ≡ true
limits-true r h = grind (arith, nat_tests)

pub inverse : (image : Image) → InLimits image.box → result_of Invert (image ∷ []) ≡ inverted_image image
inverse image small = let known = limits-true image.box small in rw known refl
