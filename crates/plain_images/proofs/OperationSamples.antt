-- The samples that operations give stay in range, and inputs by their number.
use Rattle.std.proofs.Common.{◌≡◌, ℕ, ◌<◌, ◌≤◌, Bool, true, false, ◌&&◌, cond, eqb, List, [], ◌∷◌, length, get_or, Option, Some, None, unwrap_or, refl, sym, subst, ap, ◌∙◌, arith}
use Rattle.std.proofs.lemmas.Bool.Decides.{nat_tests}
use Rattle.plane_rect.specs.Rectangle.{InLimits, Rectangle, empty}
use Rattle.pixel_formats.specs.Format.{max_sample}
use Rattle.pixel_formats.specs.declared.format.Format.{Format}
use Rattle.model_images.proofs.Laws.{at_outside}
use Rattle.model_images.specs.Image.{Image}
use Rattle.model_images.specs.Paint.{no_image}
use Rattle.model_operations.specs.Lawful.Inputs.{input_format-image}
use Rattle.model_operations.proofs.RangeLaws.{value-range}
use Rattle.model_operations.specs.Lawful.Reaching.{input_count-most}
use Rattle.model_operations.specs.Arguments.{in_range}
use Rattle.model_operations.specs.Formats.{format_of, format_with}
use Rattle.model_operations.specs.Inputs.{formats_of, input_image, input_count, input_format}
use Rattle.model_operations.specs.Results.{IsInRange}
use Rattle.model_operations.specs.Values.{value_at}
use Rattle.model_operations.specs.declared.operation.IntOp.{IntOp}

stated-by : (counted ranged : Bool) (made : Option Format) (format : Format) → cond (counted && ranged) made None ≡ Some format
    → (counted ≡ true) × (made ≡ Some format)
stated-by true true made format e = (refl, e)
stated-by true false made format e = absurd (cc e)
stated-by false ranged made format e = absurd (cc e)

-- an operation that tells a format takes at most two images
pub two_at_most : (op : IntOp) (formats : List Format) (format : Format) → format_of op formats ≡ Some format → length formats ≤ 2
two_at_most op formats format stated =
    let counted = stated-by (eqb (length formats) (input_count op)) (in_range op) (format_with op (input_format formats 0) (input_format formats 1)) format stated in
    let count : length formats ≡ input_count op = grind (arith, nat_tests, counted.0) in
    omega (arith, count, input_count-most op)

pub no_image-range : IsInRange no_image
no_image-range u v c =
    subst (λ (n : ℕ). n ≤ max_sample no_image.format) (sym (at_outside no_image u v c (λ there. omega (arith, there.column)))) (omega arith)

-- no sample that an operation gives is above the largest of the format that it tells
pub value-most : (op : IntOp) (images : List Image) (format : Format) → format_of op (formats_of images) ≡ Some format
    → IsInRange (input_image images 0) → IsInRange (input_image images 1) → (u v c : ℕ) → value_at op images u v c ≤ max_sample format
value-most op images format stated first second u v c =
    let with = stated-by (eqb (length (formats_of images)) (input_count op)) (in_range op)
    (format_with op (input_format (formats_of images) 0) (input_format (formats_of images) 1)) format stated in
    let own : format_with op (input_image images 0).format (input_image images 1).format ≡ Some format =
    ap (λ (f : Format). format_with op f (input_image images 1).format) (sym (input_format-image images 0))
    ∙ ap (λ (f : Format). format_with op (input_format (formats_of images) 0) f) (sym (input_format-image images 1))
    ∙ with.1 in
    value-range (input_image images 0) (input_image images 1) u v c op format own (λ _. first) (λ _. second)

-- lists by their lengths
pub none_of : (xs : List Image) → length xs < 1 → xs ≡ []
none_of [] few = refl
none_of (x ∷ xs) few = absurd (omega arith)

pub one_of : (xs : List Image) (x : Image) → 1 ≤ length xs → length xs < 2 → x ≡ get_or xs 0 x → xs ≡ x ∷ []
one_of [] x some few is = absurd (omega arith)
one_of (y ∷ []) x some few is = ap (λ (z : Image). z ∷ []) (sym is)
one_of (y ∷ z ∷ xs) x some few is = absurd (omega arith)

pub two_of : (xs : List Image) (x y : Image) → 2 ≤ length xs → length xs ≤ 2 → x ≡ get_or xs 0 x → y ≡ get_or xs 1 y → xs ≡ x ∷ y ∷ []
two_of [] x y some few is also = absurd (omega arith)
two_of (a ∷ []) x y some few is also = absurd (omega arith)
two_of (a ∷ b ∷ []) x y some few is also =
    ap (λ (z : Image). z ∷ b ∷ []) (sym is) ∙ ap (λ (z : Image). x ∷ z ∷ []) (sym also)
two_of (a ∷ b ∷ c ∷ xs) x y some few is also = absurd (omega arith)

-- a rectangle in limits, where there is one, else that of no position
pub InLimits-or_empty : (made : Option Rectangle) → ((box : Rectangle) → made ≡ Some box → InLimits box) → InLimits (unwrap_or made empty)
InLimits-or_empty None each = (omega arith, omega arith, omega arith)
InLimits-or_empty (Some box) each = each box refl
