-- What the results of operations depend on.
use Rattle.std.proofs.Common.{◌≡◌, ℕ, zero, suc, ◌<◌, Bool, true, false, cond, eqb, List, length, Option, Some, None, unwrap_or, refl, sym, subst, ap, ◌∙◌, arith}
use Rattle.plane_rect.proofs.Differences.{no_positions}
use Rattle.plane_rect.proofs.Rectangles.{Inside-meet}
use Rattle.plane_rect.specs.Rectangle.{Includes, Inside, Rectangle, empty, meet}
use Rattle.pixel_formats.specs.declared.format.Format.{Format}
use Rattle.model_images.proofs.Laws.{at_outside}
use Rattle.model_images.proofs.Positions.{by_positions}
use Rattle.model_images.specs.Image.{Image, at, image_from_fn}
use Rattle.model_operations.specs.Boxes.{box_with, result_box}
use Rattle.model_operations.specs.Inputs.{boxes_of, formats_of, input_image, input_box, input_count, input_format}
use Rattle.model_operations.specs.Moves.{position}
use Rattle.model_operations.specs.Regions.{invalidated, reached_from, read_for, required}
use Rattle.model_operations.specs.Results.{result_format, result_of}
use Rattle.model_graphs.specs.Changes.{HaveEqualShapes}
use Rattle.model_images.specs.Agreement.{AgreeOver}
use Rattle.model_operations.specs.Values.{value_at}
use Rattle.model_operations.specs.declared.operation.IntOp.{IntOp}
use Rattle.model_operations.specs.Lawful.Inputs.{AgreeIn, generated_same, input_box-image, input_format-image}
use Rattle.model_operations.specs.Lawful.Reaching.{first-reaches, input_count-most, second-reaches}
use Rattle.model_operations.specs.Lawful.Reading.{value-read}

-- ---- boxed

pub required-inside : (op : IntOp) (boxes : List Rectangle) (i : ℕ) (region : Rectangle) → Includes (input_box boxes i) (required op boxes i region)
required-inside op boxes i region u v there =
    ((Inside-meet u v (read_for op (input_box boxes i) (meet region (result_box op boxes))) (input_box boxes i)).0 there).1

pub invalidated-inside : (op : IntOp) (boxes : List Rectangle) (i : ℕ) (region : Rectangle) → Includes (result_box op boxes) (invalidated op boxes i region)
invalidated-inside op boxes i region u v there =
    ((Inside-meet u v (reached_from op (input_box boxes i) (meet region (input_box boxes i))) (result_box op boxes)).0 there).1

-- ---- the box of a result that has a position

-- a position of the box of a result is in one that the operation gives
abbrev HasBox : IntOp → Rectangle → Rectangle → ℕ → ℕ → Type 0
HasBox op a b u v = (r : Rectangle) × (box_with op a b ≡ Some r) × Inside u v r

some_box : (op : IntOp) (a b : Rectangle) (counted : Bool) (u v : ℕ) (made : Option Rectangle) → box_with op a b ≡ made
    → Inside u v (unwrap_or (cond counted made None) empty) → HasBox op a b u v
some_box op a b true u v (Some r) is there = (r, is, there)
some_box op a b true u v None is there = absurd (no_positions u v empty refl there)
some_box op a b false u v made is there = absurd (no_positions u v empty refl there)

has_box : (op : IntOp) (boxes : List Rectangle) (u v : ℕ) → Inside u v (result_box op boxes) → HasBox op (input_box boxes 0) (input_box boxes 1) u v
has_box op boxes u v there =
    some_box op (input_box boxes 0) (input_box boxes 1) (eqb (length boxes) (input_count op)) u v (box_with op (input_box boxes 0) (input_box boxes 1)) refl there

-- ---- local

module _ (op : IntOp) (before after : List Image) (equal : HaveEqualShapes before after) where
  same_box : (i : ℕ) → (input_image before i).box ≡ (input_image after i).box
  same_box i = sym (input_box-image before i) ∙ ap (λ (boxes : List Rectangle). input_box boxes i) equal.boxes ∙ input_box-image after i

  same_format : (i : ℕ) → (input_image before i).format ≡ (input_image after i).format
  same_format i = sym (input_format-image before i) ∙ ap (λ (formats : List Format). input_format formats i) equal.formats ∙ input_format-image after i

  -- the inputs agree in what is read for a part
  pub AgreeInRead : Rectangle → ℕ → Type 0
  AgreeInRead part i =
      AgreeIn (input_image before i) (input_image after i) (read_for op (input_image before i).box part)

  -- the samples of a position that is in the box
  value-same : (part : Rectangle) (u v c : ℕ) → Inside u v part → Inside u v (result_box op (boxes_of before))
      → ((i : ℕ) → i < input_count op → AgreeIn (input_image before i) (input_image after i) (read_for op (input_image before i).box part))
      → value_at op before u v c ≡ value_at op after u v c
  value-same part u v c there inside agree =
      let boxed = has_box op (boxes_of before) u v inside in
      let own : box_with op (input_image before 0).box (input_image before 1).box ≡ Some boxed.0 =
      ap (λ (a : Rectangle). box_with op a (input_image before 1).box) (sym (input_box-image before 0))
      ∙ ap (λ (b : Rectangle). box_with op (input_box (boxes_of before) 0) b) (sym (input_box-image before 1))
      ∙ boxed.1 in
      value-read (input_image before 0) (input_image before 1) (input_image after 0) (input_image after 1) part
      (same_box 0) (same_box 1) (same_format 0) u v c there op boxed.0 own (agree 0) (agree 1)

  -- the sample of the result at a position of which the value is known to be the same
  result-same : (u v c : ℕ) → (Inside u v (result_box op (boxes_of before)) → value_at op before u v c ≡ value_at op after u v c)
      → at (result_of op before) u v c ≡ at (result_of op after) u v c
  result-same u v c same =
      let box = result_box op (boxes_of before) in
      let format = result_format op (formats_of before) in
      by_positions _ u v box
      (λ inside. generated_same box format (value_at op before) (value_at op after) u v c inside (same inside))
      (λ out. at_outside (image_from_fn box format (value_at op before)) u v c out ∙ sym (at_outside (image_from_fn box format (value_at op after)) u v c out))
      ∙ ap (λ (boxes : List Rectangle). at (image_from_fn (result_box op boxes) format (value_at op after)) u v c) equal.boxes
      ∙ ap (λ (formats : List Format). at (image_from_fn (result_box op (boxes_of after)) (result_format op formats) (value_at op after)) u v c) equal.formats

  pub local : (region : Rectangle) → ((i : ℕ) → i < input_count op → AgreeOver (input_image before i) (input_image after i) (required op (boxes_of before) i region))
      → (u v c : ℕ) → Inside u v region → at (result_of op before) u v c ≡ at (result_of op after) u v c
  local region agree u v c there =
      result-same u v c
      (λ inside.
      value-same (meet region (result_box op (boxes_of before))) u v c
      ((Inside-meet u v region (result_box op (boxes_of before))).1 (there, inside)) inside
      (λ i known s t k read.
      agree i known s t k
      (subst (λ (box : Rectangle). Inside s t (meet (read_for op box (meet region (result_box op (boxes_of before)))) box)) (sym (input_box-image before i)) read)))

-- ---- dual

-- a position of a result, and a position of an input that it reads and that is in a part
pub input-reaches : (op : IntOp) (boxes : List Rectangle) (i : ℕ) (part : Rectangle) (u v s t : ℕ) → Inside u v (result_box op boxes) → i < input_count op
    → Inside s t (read_for op (input_box boxes i) (position u v)) → Inside s t part → Inside u v (reached_from op (input_box boxes i) part)
input-reaches op boxes zero part u v s t inside known read there =
    let boxed = has_box op boxes u v inside in
    first-reaches (input_box boxes 0) (input_box boxes 1) boxed.0 part u v s t boxed.2 there op boxed.1 read
input-reaches op boxes (suc zero) part u v s t inside known read there =
    let boxed = has_box op boxes u v inside in
    second-reaches (input_box boxes 0) (input_box boxes 1) boxed.0 part u v s t boxed.2 there op known read
input-reaches op boxes (suc (suc k)) part u v s t inside known read there =
    absurd (omega (arith, known, input_count-most op))
