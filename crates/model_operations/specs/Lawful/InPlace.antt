-- Steady operations require of their first input each position of a part.
use Rattle.std.proofs.Common.{◌≡◌, ℕ, ◌<◌, ◌≤◌, Bool, true, false, List, refl, sym, subst, arith}
use Rattle.std.proofs.lemmas.Bool.Decides.{nat_tests}
use Rattle.std.specs.Prelude.{slice_index_or}
use Rattle.plane_rect.specs.Rectangle.{Inside, Rectangle, Within, empty, meet}
use Rattle.plane_rect.proofs.Rectangles.{Inside-meet}
use Rattle.pixel_formats.specs.declared.abyss.Abyss.{Abyss}
use Rattle.pixel_formats.specs.declared.abyss.Abyss.TheVariants as policies
use Rattle.model_images.specs.Abyss.{nearest}
use Rattle.model_graphs.specs.Filters.{IsInPlace}
use Rattle.model_operations.specs.Boxes.{result_box}
use Rattle.model_operations.specs.Inputs.{input_box, input_count}
use Rattle.model_operations.specs.Lawful.Sides.{moved_into-is_inside, surrounded-is_inside}
use Rattle.model_operations.specs.Meanings.{int_meanings, is_steady}
use Rattle.model_operations.specs.Moves.{surrounded}
use Rattle.model_operations.specs.Regions.{area_read, read_for, required}
use Rattle.model_operations.specs.declared.operation.IntOp.{IntOp}
use Rattle.model_operations.specs.declared.operation.IntOp.TheVariants.{Color, Checker, Convert, Invert, Threshold, Gain, Translate, Crop, Flip, BoxMean, Dilate, Erode, Add, Over, Mask}

some_input : (op : IntOp) → is_steady op ≡ true → 0 < input_count op
some_input (Color f r s) is = absurd (cc)
some_input (Checker f r n a b) is = absurd (cc)
some_input (Convert f) is = omega arith
some_input Invert is = omega arith
some_input (Threshold a) is = omega arith
some_input (Gain a b) is = omega arith
some_input (Translate a b) is = absurd (cc)
some_input (Crop r) is = omega arith
some_input (Flip a) is = absurd (cc)
some_input (BoxMean n a) is = omega arith
some_input (Dilate n a) is = omega arith
some_input (Erode n a) is = omega arith
some_input Add is = omega arith
some_input Over is = omega arith
some_input Mask is = omega arith

nearest-inside : (start len n : ℕ) → Within start len n → nearest start len n ≡ n
nearest-inside start len n there = grind (arith, nat_tests)

around-part : (radius : ℕ) (part : Rectangle) (u v : ℕ) → Inside u v part → Inside u v (surrounded radius part)
around-part radius part u v there =
    surrounded-is_inside radius part u v u v there (omega arith) (omega arith) (omega arith) (omega arith)

area-reads : (radius : ℕ) (policy : Abyss) (box part : Rectangle) (u v : ℕ) → Inside u v part → Inside u v box → Inside u v (area_read radius policy box part)
area-reads radius policies.None box part u v there inside = around-part radius part u v there
area-reads radius policies.Clamp box part u v there inside =
    let near = moved_into-is_inside box (surrounded radius part) u v u v (around-part radius part u v there) inside in
    rw (nearest-inside box.first_column box.width u inside.column, nearest-inside box.first_row box.height v inside.row) at near
area-reads radius policies.Loop box part u v there inside = around-part radius part u v there
area-reads radius policies.Black box part u v there inside = around-part radius part u v there
area-reads radius policies.White box part u v there inside = around-part radius part u v there

read-in-place : (op : IntOp) → is_steady op ≡ true → (box part : Rectangle) (u v : ℕ) → Inside u v part → Inside u v box → Inside u v (read_for op box part)
read-in-place (Color f r s) is box part u v there inside = there
read-in-place (Checker f r n a b) is box part u v there inside = there
read-in-place (Convert f) is box part u v there inside = there
read-in-place Invert is box part u v there inside = there
read-in-place (Threshold a) is box part u v there inside = there
read-in-place (Gain a b) is box part u v there inside = there
read-in-place (Translate a b) is box part u v there inside = absurd (cc)
read-in-place (Crop r) is box part u v there inside = there
read-in-place (Flip a) is box part u v there inside = absurd (cc)
read-in-place (BoxMean n a) is box part u v there inside = area-reads n a box part u v there inside
read-in-place (Dilate n a) is box part u v there inside = area-reads n a box part u v there inside
read-in-place (Erode n a) is box part u v there inside = area-reads n a box part u v there inside
read-in-place Add is box part u v there inside = there
read-in-place Over is box part u v there inside = there
read-in-place Mask is box part u v there inside = there

required-in-place : (op : IntOp) → is_steady op ≡ true → (boxes : List Rectangle) (part : Rectangle) (u v : ℕ) →
    Inside u v part → Inside u v (result_box op boxes) → Inside u v (input_box boxes 0) → Inside u v (required op boxes 0 part)
required-in-place op is boxes part u v there inside first =
    let box = input_box boxes 0 in
    let own : Inside u v (meet part (result_box op boxes)) = (Inside-meet u v part (result_box op boxes)).1 (there, inside) in
    (Inside-meet u v (read_for op box (meet part (result_box op boxes))) box).1
    (read-in-place op is box (meet part (result_box op boxes)) u v own first, first)

pub is_in_place : IsInPlace is_steady int_meanings
is_in_place = record { input = some_input; required = required-in-place }
