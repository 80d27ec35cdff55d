-- What changes reach: where a position of the result needs a position of an input, a change of the one reaches the
-- other.
use Rattle.std.proofs.Common.{[], ◌∷◌, ◌≡◌, ℕ, ◌<◌, ◌≤◌, ℤ, pos, negsuc, ◌+ℤ◌, ◌-ℤ◌, ◌≤ℤ◌, Bool, true, false, cond, Some, None, Result, Ok, Err, refl, sym, subst, ap, arith}
use Rattle.std.proofs.lemmas.Int.{ints}
use Rattle.std.proofs.lemmas.Bool.Decides.{nat_tests}
use Rattle.plane_rect.proofs.Moved.{shifted-moves}
use Rattle.plane_rect.proofs.Rectangles.{InsideSigned-coordinates}
use Rattle.plane_rect.specs.Rectangle.{Inside, InsideSigned, Rectangle, in_limits, is_empty, if_in_limits, plane_coordinate, shifted}
use Rattle.plane_rect.specs.declared.rect.RectRefused.{RectRefused}
use Rattle.pixel_formats.specs.declared.abyss.Abyss.{Abyss}
use Rattle.pixel_formats.specs.declared.abyss.Abyss.TheVariants as policies
use Rattle.model_operations.specs.Boxes.{area_box, box_of, box_with}
use Rattle.model_operations.specs.Inputs.{input_count}
use Rattle.model_operations.specs.Moves.{moved_index, source_index, mirrored_part, moved, moved_back, position, surrounded}
use Rattle.model_operations.specs.Regions.{area_read, reached_from, read_for}
use Rattle.model_operations.specs.declared.operation.IntOp.{IntOp}
use Rattle.model_operations.specs.declared.operation.IntOp.TheVariants.{Color, Checker, Convert, Invert, Threshold, Gain, Translate, Crop, Flip, BoxMean, Dilate, Erode, Add, Over, Mask}
use Rattle.model_operations.specs.Lawful.Sides.{AreNear, mirrored_part-came, mirrored_part-position, mirrored_row, moved-is_inside, moved_into-near, surrounded-is_inside, surrounded-near}

-- a rectangle in limits is the one that was tested
limited_if : (b : Bool) (q r : Rectangle) → cond b (Some q) None ≡ Some r → q ≡ r
limited_if true q r e = cc
limited_if false q r e = absurd (cc e)

pub limited : (q r : Rectangle) → if_in_limits (Ok q) ≡ Some r → q ≡ r
limited q r e = limited_if (in_limits q) q r e

-- a rectangle that is made
made_of : Rectangle → Result Rectangle RectRefused
made_of r = Ok r

limited_made : (made : Result Rectangle RectRefused) (r : Rectangle) → if_in_limits made ≡ Some r → made ≡ made_of r
unfolding made_of
limited_made (Ok q) r e = ap made_of (limited q r e)
limited_made (Err refused) r e = absurd (cc e)

no_position : (u v : ℕ) (r : Rectangle) → is_empty r ≡ true → Inside u v r → ⊥
no_position u v r none there = grind (arith, nat_tests)

-- the one position of a rectangle of one
position-only : (u v u' v' : ℕ) → Inside u' v' (position u v) → (u' ≡ u) × (v' ≡ v)
position-only u v u' v' h = (omega (arith, h.column), omega (arith, h.row))

-- ---- moved images

-- a position of a moved box did not come from before the plane's corner
came : (d : ℤ) (start u : ℕ) → plane_coordinate start ≤ℤ (plane_coordinate u -ℤ d) → moved_index d (source_index d u) ≡ u
came (pos n) start u h = omega (arith, ints, h)
came (negsuc n) start u h = omega (arith, ints, h)

-- the x of the column from which one came
source_index-coordinate : (d : ℤ) (u : ℕ) → moved_index d (source_index d u) ≡ u → plane_coordinate (source_index d u) ≡ plane_coordinate u -ℤ d
source_index-coordinate (pos n) u h = omega (arith, ints, h)
source_index-coordinate (negsuc n) u h = omega (arith, ints, h)

module _ (dx dy : ℤ) (box r : Rectangle) (boxed : if_in_limits (shifted dx dy box) ≡ Some r) (u v : ℕ) (inside : Inside u v r) where
  stays : is_empty box ≡ true → Inside u v box
  stays none =
      let whole : if_in_limits (Ok box) ≡ Some r = rw none at boxed in
      subst (λ (q : Rectangle). Inside u v q) (sym (limited box r whole)) inside

  source : is_empty box ≡ false → InsideSigned (plane_coordinate u -ℤ dx) (plane_coordinate v -ℤ dy) box
  unfolding made_of
  source some =
      let made = limited_made (shifted dx dy box) r boxed in
      let x = plane_coordinate u -ℤ dx in
      let y = plane_coordinate v -ℤ dy in
      let column : plane_coordinate u ≡ x +ℤ dx = omega (arith, ints) in
      let row : plane_coordinate v ≡ y +ℤ dy = omega (arith, ints) in
      let there : InsideSigned (x +ℤ dx) (y +ℤ dy) r =
      subst (λ (s : ℤ). InsideSigned s (y +ℤ dy) r) column (subst (λ (t : ℤ). InsideSigned (plane_coordinate u) t r) row ((InsideSigned-coordinates u v r).1 inside)) in
      (shifted-moves dx dy box some (Ok r) (sym made) x y).0 there

  moves : is_empty box ≡ false → (moved_index dx (source_index dx u) ≡ u) × (moved_index dy (source_index dy v) ≡ v)
  moves some =
      let from = source some in
      (came dx box.first_column u from.0.0, came dy box.first_row v from.1.0)

  shows : is_empty box ≡ false → Inside (source_index dx u) (source_index dy v) box
  shows some =
      let own = moves some in
      (InsideSigned-coordinates (source_index dx u) (source_index dy v) box).0
      (subst (λ (s : ℤ). InsideSigned s (plane_coordinate (source_index dy v)) box) (sym (source_index-coordinate dx u own.0))
      (subst (λ (t : ℤ). InsideSigned (plane_coordinate u -ℤ dx) t box) (sym (source_index-coordinate dy v own.1)) (source some)))

  pub translated-from : Inside (source_index dx u) (source_index dy v) box
  translated-from =
      elim (is_empty box) as (λ b. is_empty box ≡ b → Inside (source_index dx u) (source_index dy v) box) [
        | true ↦ λ none. absurd (no_position u v box none (stays none))
        | false ↦ λ some. shows some
      ] refl

  pub shifted-came : (moved_index dx (source_index dx u) ≡ u) × (moved_index dy (source_index dy v) ≡ v)
  shifted-came =
      elim (is_empty box) as (λ b. is_empty box ≡ b → (moved_index dx (source_index dx u) ≡ u) × (moved_index dy (source_index dy v) ≡ v)) [
        | true ↦ λ none. absurd (no_position u v box none (stays none))
        | false ↦ λ some. moves some
      ] refl

module _ (a b r part : Rectangle) (u v u' v' : ℕ) (inside : Inside u v r) (changed : Inside u' v' part) where
  pub area-reaches : (radius : ℕ) (policy : Abyss) (box : Rectangle) → area_box radius policy box ≡ Some r
      → Inside u' v' (area_read radius policy box (position u v)) → Inside u v (surrounded radius part)
  area-reaches radius policy box boxed read =
      let near = area-near policy boxed read in
      surrounded-is_inside radius part u' v' u v changed near.first_column near.end_column near.first_row near.end_row
    where
      area-near : (policy : Abyss) → area_box radius policy box ≡ Some r → Inside u' v' (area_read radius policy box (position u v)) → AreNear radius u v u' v'
      area-near policies.None boxed read = surrounded-near radius u v u' v' read
      area-near policies.Clamp boxed read =
          let is = limited box r boxed in
          moved_into-near box radius u v u' v' (subst (λ (q : Rectangle). Inside u v q) (sym is) inside) read
      area-near policies.Loop boxed read = absurd (cc boxed)
      area-near policies.Black boxed read = surrounded-near radius u v u' v' read
      area-near policies.White boxed read = surrounded-near radius u v u' v' read

  pub position-reaches : Inside u' v' (position u v) → Inside u v part
  position-reaches read =
      let one = position-only u v u' v' read in
      subst (λ (s : ℕ). Inside s v part) one.0 (subst (λ (t : ℕ). Inside u' t part) one.1 changed)

  pub flip-reaches : (sideways : Bool) (box : Rectangle) → if_in_limits (Ok box) ≡ Some r
      → Inside u' v' (mirrored_part sideways box (position u v)) → Inside u v (mirrored_part sideways box part)
  flip-reaches sideways box boxed read =
      let is = limited box r boxed in
      let there : Inside u v box = subst (λ (q : Rectangle). Inside u v q) (sym is) inside in
      let one = mirrored_part-position sideways box u v u' v' there read in
      mirrored_part-came sideways box part u v there
      (subst (λ (s : ℕ). Inside s (mirrored_row sideways box v) part) one.0 (subst (λ (t : ℕ). Inside u' t part) one.1 changed))

  pub move-reaches : (dx dy : ℤ) (box : Rectangle) → if_in_limits (shifted dx dy box) ≡ Some r
      → Inside u' v' (moved_back dx dy (position u v)) → Inside u v (moved dx dy part)
  move-reaches dx dy box boxed read =
      let one = position-only (source_index dx u) (source_index dy v) u' v' read in
      let from = shifted-came dx dy box r boxed u v inside in
      moved-is_inside dx dy part u v from.0 from.1
      (subst (λ (s : ℕ). Inside s (source_index dy v) part) one.0 (subst (λ (t : ℕ). Inside u' t part) one.1 changed))

  -- of the first input
  pub first-reaches : (op : IntOp) → box_with op a b ≡ Some r → Inside u' v' (read_for op a (position u v)) → Inside u v (reached_from op a part)
  first-reaches (Color f rect samples) boxed read = position-reaches read
  first-reaches (Checker f rect size v1 v2) boxed read = position-reaches read
  first-reaches (Convert f) boxed read = position-reaches read
  first-reaches Invert boxed read = position-reaches read
  first-reaches (Threshold level) boxed read = position-reaches read
  first-reaches (Gain num den) boxed read = position-reaches read
  first-reaches (Translate dx dy) boxed read = move-reaches dx dy a boxed read
  first-reaches (Crop rect) boxed read = position-reaches read
  first-reaches (Flip sideways) boxed read = flip-reaches sideways a boxed read
  first-reaches (BoxMean radius abyss) boxed read = area-reaches radius abyss a boxed read
  first-reaches (Dilate radius abyss) boxed read = area-reaches radius abyss a boxed read
  first-reaches (Erode radius abyss) boxed read = area-reaches radius abyss a boxed read
  first-reaches Add boxed read = position-reaches read
  first-reaches Over boxed read = position-reaches read
  first-reaches Mask boxed read = position-reaches read

  -- of the second, which an operation reads position by position
  pub second-reaches : (op : IntOp) → 1 < input_count op → Inside u' v' (read_for op b (position u v)) → Inside u v (reached_from op b part)
  second-reaches (Color f rect samples) two read = absurd (omega arith)
  second-reaches (Checker f rect size v1 v2) two read = absurd (omega arith)
  second-reaches (Convert f) two read = absurd (omega arith)
  second-reaches Invert two read = absurd (omega arith)
  second-reaches (Threshold level) two read = absurd (omega arith)
  second-reaches (Gain num den) two read = absurd (omega arith)
  second-reaches (Translate dx dy) two read = absurd (omega arith)
  second-reaches (Crop rect) two read = absurd (omega arith)
  second-reaches (Flip sideways) two read = absurd (omega arith)
  second-reaches (BoxMean radius abyss) two read = absurd (omega arith)
  second-reaches (Dilate radius abyss) two read = absurd (omega arith)
  second-reaches (Erode radius abyss) two read = absurd (omega arith)
  second-reaches Add two read = position-reaches read
  second-reaches Over two read = position-reaches read
  second-reaches Mask two read = position-reaches read

-- an operation has at most two inputs
pub input_count-most : (op : IntOp) → input_count op ≤ 2
input_count-most (Color f rect samples) = omega arith
input_count-most (Checker f rect size v1 v2) = omega arith
input_count-most (Convert f) = omega arith
input_count-most Invert = omega arith
input_count-most (Threshold level) = omega arith
input_count-most (Gain num den) = omega arith
input_count-most (Translate dx dy) = omega arith
input_count-most (Crop rect) = omega arith
input_count-most (Flip sideways) = omega arith
input_count-most (BoxMean radius abyss) = omega arith
input_count-most (Dilate radius abyss) = omega arith
input_count-most (Erode radius abyss) = omega arith
input_count-most Add = omega arith
input_count-most Over = omega arith
input_count-most Mask = omega arith

-- a position of a translated box shows one of the input's
pub translated-shows : (dx dy : ℤ) (box r : Rectangle) → box_of (Translate dx dy) (box ∷ []) ≡ Some r → (u v : ℕ) → Inside u v r
    → Inside (source_index dx u) (source_index dy v) box
translated-shows dx dy box r stated u v inside = translated-from dx dy box r stated u v inside
