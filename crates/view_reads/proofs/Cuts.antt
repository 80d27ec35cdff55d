-- Parts of images that agree over a rectangle, and the limits of parts of rectangles.
use Rattle.std.proofs.Common.{◌≡◌, ℕ, ◌≤◌, max, min, true, inl, inr, sym, subst, ◌∙◌, arith}
use Rattle.std.proofs.lemmas.Bool.Decides.{nat_tests}
use Rattle.std.proofs.lemmas.Nat.{mul-le}
use Rattle.plane_rect.specs.Rectangle.{InLimits, Includes, Inside, IsRectangle, Rectangle, area, end_column, end_row, has_positions, meet}
use Rattle.plane_rect.specs.Tile.{Tile, plane, tile_rectangle, tile_square}
use Rattle.plane_rect.proofs.Differences.{reaches}
use Rattle.plane_rect.proofs.RectangleLaws.{IsRectangle-spanning}
use Rattle.plane_rect.proofs.Rectangles.{Inside-meet, some_or_empty}
use Rattle.model_images.specs.Agreement.{AgreeOver}
use Rattle.model_images.specs.Image.{Image}
use Rattle.model_images.specs.Paint.{cut}
use Rattle.model_images.proofs.Agreeing.{at-cut}
use Rattle.model_images.proofs.Laws.{at_outside}
use Rattle.model_images.proofs.Positions.{by_positions}

-- parts of one image that have the same positions of a rectangle
pub cuts-agree : (image : Image) (a b r : Rectangle) → ((u v : ℕ) → Inside u v r → Inside u v a → Inside u v b)
    → ((u v : ℕ) → Inside u v r → Inside u v b → Inside u v a) → AgreeOver (cut image a) (cut image b) r
cuts-agree image a b r to from u v c there =
    by_positions _ u v a
    (λ in_a. at-cut image a u v c in_a ∙ sym (at-cut image b u v c (to u v there in_a)))
    (λ out. at_outside (cut image a) u v c out ∙ sym (at_outside (cut image b) u v c (λ in_b. out (from u v there in_b))))

-- an image and a part of it that has all its positions of a rectangle
pub whole-agrees : (image : Image) (b r : Rectangle) → Includes image.box b → ((u v : ℕ) → Inside u v r → Inside u v image.box → Inside u v b)
    → AgreeOver image (cut image b) r
whole-agrees image b r inside all u v c there =
    by_positions _ u v image.box
    (λ in_box. sym (at-cut image b u v c (all u v there in_box)))
    (λ out. at_outside image u v c out ∙ sym (at_outside (cut image b) u v c (λ in_b. out (inside u v in_b))))

-- a part of a rectangle in limits is in limits
pub limits-part : (box part : Rectangle) → IsRectangle part → Includes box part → InLimits box → InLimits part
limits-part box part is inside limits = elim (some_or_empty part is) [
  | inl some ↦
      let positions : has_positions part ≡ true = grind (arith, nat_tests, some) in
      let far = reaches box part positions inside in
      let wide : part.width ≤ box.width = omega (arith, far) in
      let high : part.height ≤ box.height = omega (arith, far) in
      let fewer : area part ≤ area box = mul-le part.width part.height box.width box.height wide high in
      (omega (arith, wide, limits), omega (arith, high, limits), omega (arith, fewer, limits))
  | inr none ↦ subst (λ (q : Rectangle). InLimits q) (sym none) (omega arith, omega arith, omega arith)
]

-- a tile's square is in limits
square-limits : (t : Tile) → InLimits (tile_square t)
square-limits t = (omega arith, omega arith, omega arith)

pub tile-limits : (t : Tile) (part : Rectangle) → IsRectangle part → Includes (tile_rectangle t) part → InLimits part
tile-limits t part is inside =
    limits-part (tile_square t) part is (λ u v there. ((Inside-meet u v (tile_square t) plane).0 (inside u v there)).0) (square-limits t)

pub meet-is : (r s : Rectangle) → IsRectangle r → IsRectangle (meet r s)
meet-is r s is =
    IsRectangle-spanning (max r.first_column s.first_column) (max r.first_row s.first_row) (min (end_column r) (end_column s)) (min (end_row r) (end_row s))
    (omega (arith, is.columns)) (omega (arith, is.rows))

-- what a rectangle has of a tile is in limits
pub meet-limits : (r : Rectangle) (t : Tile) (part : Rectangle) → IsRectangle r → part ≡ meet r (tile_rectangle t) → InLimits part
meet-limits r t part is same =
    tile-limits t part
    (subst IsRectangle (sym same) (meet-is r (tile_rectangle t) is))
    (λ u v there. ((Inside-meet u v r (tile_rectangle t)).0 (subst (λ (q : Rectangle). Inside u v q) same there)).1)
