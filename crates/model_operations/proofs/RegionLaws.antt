-- What regions are, position by position.
use Rattle.std.proofs.Common.{◌≡◌, ℕ, ◌+◌, ◌-◌, ◌<◌, ◌≤◌, ◌↔◌, true, false, List, max, min, refl, sym, subst, arith}
use Rattle.std.proofs.lemmas.Bool.Decides.{nat_tests}
use Rattle.plane_rect.proofs.Rectangles.{Inside-meet, Inside-spanning}
use Rattle.plane_rect.specs.Rectangle.{AreNear, Inside, InsideGrown, Rectangle, Within, end_row, empty, is_empty, meet, end_column}
use Rattle.model_images.specs.Abyss.{nearest}
use Rattle.model_operations.specs.Boxes.{result_box}
use Rattle.model_operations.specs.Inputs.{input_box}
use Rattle.model_operations.specs.Moves.{moved_into, surrounded}
use Rattle.model_operations.specs.Regions.{IsNearestTo, invalidated, is_pointwise, reached_from, read_for, required}
use Rattle.model_operations.specs.declared.operation.IntOp.{IntOp}
use Rattle.model_operations.specs.declared.operation.IntOp.TheVariants.{Color, Checker, Convert, Invert, Threshold, Gain, Translate, Crop, Flip, BoxMean, Dilate, Erode, Add, Over, Mask}

-- ---- operations on each pixel

pointwise-reads : (op : IntOp) → is_pointwise op ≡ true → (box part : Rectangle) → (read_for op box part ≡ part) × (reached_from op box part ≡ part)
pointwise-reads (Color f rect samples) point box part = (refl, refl)
pointwise-reads (Checker f rect size v1 v2) point box part = (refl, refl)
pointwise-reads (Convert f) point box part = (refl, refl)
pointwise-reads Invert point box part = (refl, refl)
pointwise-reads (Threshold level) point box part = (refl, refl)
pointwise-reads (Gain num den) point box part = (refl, refl)
pointwise-reads (Translate dx dy) point box part = absurd (cc point)
pointwise-reads (Crop rect) point box part = (refl, refl)
pointwise-reads (Flip sideways) point box part = absurd (cc point)
pointwise-reads (BoxMean radius abyss) point box part = absurd (cc point)
pointwise-reads (Dilate radius abyss) point box part = absurd (cc point)
pointwise-reads (Erode radius abyss) point box part = absurd (cc point)
pointwise-reads Add point box part = (refl, refl)
pointwise-reads Over point box part = (refl, refl)
pointwise-reads Mask point box part = (refl, refl)

-- the positions that are in each of three rectangles
Inside-three : (a b c : Rectangle) (u v : ℕ) → Inside u v (meet (meet a b) c) ↔ (Inside u v a × Inside u v b × Inside u v c)
Inside-three a b c u v =
    let outer = Inside-meet u v (meet a b) c in
    let inner = Inside-meet u v a b in
    (λ h. let t = outer.0 h in let p = inner.0 t.0 in (p.0, p.1, t.1), λ h. outer.1 (inner.1 (h.0, h.1), h.2))

pub required-pointwise : (op : IntOp) (boxes : List Rectangle) (i : ℕ) (region : Rectangle) (u v : ℕ) → is_pointwise op ≡ true
    → Inside u v (required op boxes i region) ↔ (Inside u v region × Inside u v (result_box op boxes) × Inside u v (input_box boxes i))
required-pointwise op boxes i region u v point =
    let box = input_box boxes i in
    let own = (pointwise-reads op point box (meet region (result_box op boxes))).0 in
    subst (λ (r : Rectangle). Inside u v (meet r box) ↔ (Inside u v region × Inside u v (result_box op boxes) × Inside u v box)) (sym own)
    (Inside-three region (result_box op boxes) box u v)

pub invalidated-pointwise : (op : IntOp) (boxes : List Rectangle) (i : ℕ) (region : Rectangle) (u v : ℕ) → is_pointwise op ≡ true
    → Inside u v (invalidated op boxes i region) ↔ (Inside u v region × Inside u v (input_box boxes i) × Inside u v (result_box op boxes))
invalidated-pointwise op boxes i region u v point =
    let box = input_box boxes i in
    let own = (pointwise-reads op point box (meet region box)).1 in
    subst (λ (r : Rectangle). Inside u v (meet r (result_box op boxes)) ↔ (Inside u v region × Inside u v box × Inside u v (result_box op boxes))) (sym own)
    (Inside-three region box (result_box op boxes) u v)

-- ---- surrounded rectangles

near-within : (start len by n : ℕ) → 0 < len → ((start - by ≤ n) × (n < start + len + by)) ↔ ((m : ℕ) × Within start len m × AreNear by n m)
near-within start len by n some = (λ h. (max start (min n (start + len - 1)), (omega arith, omega arith), (omega arith, omega arith)), λ h. (omega (arith, h.1, h.2), omega (arith, h.1, h.2)))

none-near : (by u v : ℕ) (r : Rectangle) → is_empty r ≡ true → InsideGrown by u v r → ⊥
none-near by u v r none near = grind (arith, nat_tests, near.2)

none-surrounds : (by u v : ℕ) (r : Rectangle) → is_empty r ≡ true → Inside u v (surrounded by r) → ⊥
none-surrounds by u v r none there =
    let own : Inside u v empty = rw none at there in
    omega (arith, own.column)

some-surrounded : (by u v : ℕ) (r : Rectangle) → is_empty r ≡ false → Inside u v (surrounded by r) ↔ InsideGrown by u v r
some-surrounded by u v r some =
    let wide : 0 < r.width = grind (arith, nat_tests) in
    let high : 0 < r.height = grind (arith, nat_tests) in
    let spans = Inside-spanning u v (r.first_column - by) (r.first_row - by) (end_column r + by) (end_row r + by) in
    let columns = near-within r.first_column r.width by u wide in
    let rows = near-within r.first_row r.height by v high in
    rw some (
      λ h. let t = spans.0 h in
          let x = columns.0 (t.0, t.1) in
          let y = rows.0 (t.2, t.3) in
          (x.0, y.0, record { column = x.1; row = y.1 }, x.2, y.2),
      λ h. let x = columns.1 (h.0, h.2.column, h.3) in
          let y = rows.1 (h.1, h.2.row, h.4) in
          spans.1 (x.0, x.1, y.0, y.1),
    )

pub surrounded-positions : (by u v : ℕ) (r : Rectangle) → Inside u v (surrounded by r) ↔ InsideGrown by u v r
surrounded-positions by u v r =
    elim (is_empty r) as (λ b. is_empty r ≡ b → Inside u v (surrounded by r) ↔ InsideGrown by u v r) [
      | true ↦ λ none. (λ h. absurd (none-surrounds by u v r none h), λ h. absurd (none-near by u v r none h))
      | false ↦ λ some. some-surrounded by u v r some
    ] refl

-- ---- rectangles moved into a box

-- along one side: the nearest to some numbers in a row are again numbers in a row
nearest-row : (start len first n m : ℕ) → 0 < len → 0 < n
    → ((nearest start len first ≤ m) × (m < nearest start len (first + n - 1) + 1)) ↔ ((k : ℕ) × Within first n k × (m ≡ nearest start len k))
nearest-row start len first n m some more = (
  λ h. (max first (min m (first + n - 1)), (omega arith, omega arith), omega (arith, h.0, h.1)),
  λ h. (omega (arith, h.1, h.2), omega (arith, h.1, h.2)),
)

none-moved : (box r : Rectangle) (u v : ℕ) → is_empty box ≡ false → is_empty r ≡ true → Inside u v (moved_into box r) → ⊥
none-moved box r u v some none there =
    let own : Inside u v empty = rw (some, none) at there in
    omega (arith, own.column)

none-nearest : (box r : Rectangle) (u v : ℕ) → is_empty r ≡ true → IsNearestTo box u v r → ⊥
none-nearest box r u v none near = grind (arith, nat_tests, near.2)

some-moved : (box r : Rectangle) (u v : ℕ) → is_empty box ≡ false → is_empty r ≡ false → Inside u v (moved_into box r) ↔ IsNearestTo box u v r
some-moved box r u v some more =
    let wide : 0 < box.width = grind (arith, nat_tests) in
    let high : 0 < box.height = grind (arith, nat_tests) in
    let broad : 0 < r.width = grind (arith, nat_tests) in
    let tall : 0 < r.height = grind (arith, nat_tests) in
    let spans = Inside-spanning u v
    (nearest box.first_column box.width r.first_column) (nearest box.first_row box.height r.first_row)
    (nearest box.first_column box.width (end_column r - 1) + 1) (nearest box.first_row box.height (end_row r - 1) + 1) in
    let columns = nearest-row box.first_column box.width r.first_column r.width u wide broad in
    let rows = nearest-row box.first_row box.height r.first_row r.height v high tall in
    rw (some, more) (
      λ h. let t = spans.0 h in
          let x = columns.0 (t.0, t.1) in
          let y = rows.0 (t.2, t.3) in
          (x.0, y.0, record { column = x.1; row = y.1 }, x.2, y.2),
      λ h. let x = columns.1 (h.0, h.2.column, h.3) in
          let y = rows.1 (h.1, h.2.row, h.4) in
          spans.1 (x.0, x.1, y.0, y.1),
    )

pub moved_into-positions : (box r : Rectangle) (u v : ℕ) → is_empty box ≡ false → Inside u v (moved_into box r) ↔ IsNearestTo box u v r
moved_into-positions box r u v some =
    elim (is_empty r) as (λ b. is_empty r ≡ b → Inside u v (moved_into box r) ↔ IsNearestTo box u v r) [
      | true ↦ λ none. (λ h. absurd (none-moved box r u v some none h), λ h. absurd (none-nearest box r u v none h))
      | false ↦ λ more. some-moved box r u v some more
    ] refl
