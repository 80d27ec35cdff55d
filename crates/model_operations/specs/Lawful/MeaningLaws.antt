-- The fifteen operations keep the laws of meanings.
use Rattle.std.proofs.Common.{◌≡◌, ℕ, ◌+◌, ◌-◌, ◌<◌, min, max, Bool, true, false, not, eqb, cond, List, length, inl, inr, refl, sym, ap, ◌∙◌, subst, arith, unwrap_or, None}
use Rattle.std.proofs.lemmas.Bool.{cases_lt}
use Rattle.std.proofs.lemmas.Bool.Decides.{nat_tests}
use Rattle.std.proofs.lemmas.List.{get_or_past, length-map}
use Rattle.plane_rect.specs.Rectangle.{Rectangle, Inside, end_row, empty, is_empty, meet, rectangle, end_column}
use Rattle.plane_rect.proofs.Differences.{no_positions}
use Rattle.plane_rect.proofs.Rectangles.{Inside-meet}
use Rattle.model_images.specs.Image.{Image, at}
use Rattle.model_images.specs.Paint.{no_image}
use Rattle.model_operations.specs.Boxes.{box_with, result_box}
use Rattle.model_operations.specs.Inputs.{boxes_of, input_image, input_box, input_count}
use Rattle.model_operations.specs.Moves.{position}
use Rattle.model_operations.specs.Regions.{invalidated, reached_from, read_for, required}
use Rattle.model_operations.specs.declared.operation.IntOp.{IntOp}
use Rattle.model_operations.specs.declared.operation.IntOp.TheVariants.{Color, Checker, Convert, Invert, Threshold, Gain, Translate, Crop, Flip, BoxMean, Dilate, Erode, Add, Over, Mask}
use Rattle.model_operations.specs.Lawful.ImageLaws.{input-reaches, invalidated-inside, local, required-inside}
use Rattle.model_images.specs.Agreement.{AgreeOver}
use Rattle.model_graphs.specs.Laws.{AgreeWhereRequired, IsBoxed, IsDual, IsLocal, KeepsNothing, unit_rectangle}
use Rattle.model_operations.specs.Meanings.{int_meanings}

-- ---- local

-- inputs that agree where a part requires them: those that are there, and those that are not
agree_on : (operation : IntOp) (a b : List Image) (part : Rectangle) → AgreeWhereRequired int_meanings operation a b part → (i : ℕ) → AgreeOver (input_image a i) (input_image b i) (required operation (boxes_of a) i part)
agree_on operation a b part agree i =
    let count = ap length agree.boxes in
    let first = length-map a (λ (image : Image). image.box) in
    let second = length-map b (λ (image : Image). image.box) in
    elim (cases_lt i (length a)) [
      | inl there ↦ agree.samples i there
      | inr past ↦
          let none : input_image a i ≡ no_image = get_or_past a i no_image past in
          let also : input_image b i ≡ no_image = get_or_past b i no_image (omega (arith, past, count, first, second)) in
          λ u v c read. ap (λ (image : Image). at image u v c) (none ∙ sym also)
    ]

pub is_local : IsLocal int_meanings
is_local operation a b part inside agree =
    local operation a b (record { boxes = agree.boxes; formats = agree.formats }) part (λ i less. agree_on operation a b part agree i)

-- ---- what a position reads of an input that changed

meet-position : (u v : ℕ) (r : Rectangle) → Inside u v r → meet (position u v) r ≡ position u v
meet-position u v r there =
    let first_column : max u r.first_column ≡ u = omega (arith, there.column) in
    let first_row : max v r.first_row ≡ v = omega (arith, there.row) in
    let width : min (u + 1) (end_column r) - max u r.first_column ≡ 1 = omega (arith, there.column) in
    let height : min (v + 1) (end_row r) - max v r.first_row ≡ 1 = omega (arith, there.row) in
    ap (λ (n : ℕ). rectangle n (max v r.first_row) (min (u + 1) (end_column r) - max u r.first_column) (min (v + 1) (end_row r) - max v r.first_row)) first_column
    ∙ ap (λ (n : ℕ). rectangle u n (min (u + 1) (end_column r) - max u r.first_column) (min (v + 1) (end_row r) - max v r.first_row)) first_row
    ∙ ap (λ (n : ℕ). rectangle u v n (min (v + 1) (end_row r) - max v r.first_row)) width
    ∙ ap (λ (n : ℕ). rectangle u v 1 n) height

pub unreached-requires : (op : IntOp) (boxes : List Rectangle) (i : ℕ) (region : Rectangle) (u v s t : ℕ) → i < input_count op
    → Inside u v (result_box op boxes) → ¬ Inside u v (invalidated op boxes i region)
    → Inside s t (required op boxes i (position u v)) → ¬ Inside s t region
unreached-requires op boxes i region u v s t known inside out read changed =
    let box = input_box boxes i in
    let parts = (Inside-meet s t (read_for op box (meet (position u v) (result_box op boxes))) box).0 read in
    let own : Inside s t (read_for op box (position u v)) =
    subst (λ (r : Rectangle). Inside s t (read_for op box r)) (meet-position u v (result_box op boxes) inside) parts.0 in
    out ((Inside-meet u v (reached_from op box (meet region box)) (result_box op boxes)).1
    (input-reaches op boxes i (meet region box) u v s t inside known own ((Inside-meet s t region box).1 (changed, parts.1)), inside))

-- ---- dual

-- where a result has a position there are as many inputs as the operation takes
counted : (operation : IntOp) (boxes : List Rectangle) (u v : ℕ) → Inside u v (result_box operation boxes) → length boxes ≡ input_count operation
counted operation boxes u v there = by (eqb (length boxes) (input_count operation)) refl there
  where
    by : (b : Bool) → eqb (length boxes) (input_count operation) ≡ b →
        Inside u v (unwrap_or (cond b (box_with operation (input_box boxes 0) (input_box boxes 1)) None) empty) → length boxes ≡ input_count operation
    by true e there = grind (arith, nat_tests)
    by false e there = absurd (omega (arith, there.column))

pub is_dual : IsDual int_meanings
is_dual operation boxes i changed u v inside out s t read reached =
    elim (cases_lt i (length boxes)) [
      | inl there ↦
          let count = counted operation boxes u v inside in
          unreached-requires operation boxes i changed u v s t (omega (arith, count, there)) inside out read reached
      | inr past ↦
          let own : Inside s t (input_box boxes i) = required-inside operation boxes i (unit_rectangle u v) s t read in
          let none : Inside s t empty = subst (λ (r : Rectangle). Inside s t r) (get_or_past boxes i empty past) own in
          omega (arith, none.column)
    ]

-- ---- nothing

a_position : (r : Rectangle) → is_empty r ≡ false → Inside r.first_column r.first_row r
a_position r some = grind (arith, nat_tests)

-- a rectangle that contains no position is empty
empty_by_positions : (r : Rectangle) → ((u v : ℕ) → ¬ Inside u v r) → is_empty r ≡ true
empty_by_positions r none = by (is_empty r) refl
  where
    by : (b : Bool) → is_empty r ≡ b → b ≡ true
    by true e = refl
    by false e = absurd (none r.first_column r.first_row (a_position r e))

meet_nothing : (r box : Rectangle) → is_empty r ≡ true → is_empty (meet r box) ≡ true
meet_nothing r box none =
    empty_by_positions (meet r box) (λ u v there. no_positions u v r (ap not none) ((Inside-meet u v r box).0 there).0)

moved_nothing : (operation : IntOp) (box part : Rectangle) → is_empty part ≡ true → is_empty (reached_from operation box part) ≡ true
moved_nothing (Color f r s) box part none = none
moved_nothing (Checker f r n a b) box part none = none
moved_nothing (Convert f) box part none = none
moved_nothing Invert box part none = none
moved_nothing (Threshold a) box part none = none
moved_nothing (Gain a b) box part none = none
moved_nothing (Translate a b) box part none = rw none refl
moved_nothing (Crop r) box part none = none
moved_nothing (Flip true) box part none = rw none refl
moved_nothing (Flip false) box part none = rw none refl
moved_nothing (BoxMean n a) box part none = rw none refl
moved_nothing (Dilate n a) box part none = rw none refl
moved_nothing (Erode n a) box part none = rw none refl
moved_nothing Add box part none = none
moved_nothing Over box part none = none
moved_nothing Mask box part none = none

pub keeps_nothing : KeepsNothing int_meanings
keeps_nothing operation boxes i changed none =
    let box = input_box boxes i in
    meet_nothing (reached_from operation box (meet changed box)) (result_box operation boxes)
    (moved_nothing operation box (meet changed box) (meet_nothing changed box none))

-- ---- boxed

pub is_boxed : IsBoxed int_meanings
is_boxed = record { required = required-inside; invalidated = invalidated-inside }
