-- Rectangles from a first column and row up to an end, moved, surrounded and met with another.
use Rattle.std.proofs.Common.{◌≡◌, ◌∙◌, sym, ℕ, zero, suc, ◌+◌, ◌-◌, ◌<◌, ◌≤◌, min, max, arith, refl, false, ap}
use Rattle.std.proofs.lemmas.Bool.Decides.{nat_tests}
use Rattle.plane_rect.proofs.Rectangles.{rectangle-no_rows, rectangle-some}
use Rattle.plane_rect.specs.Rectangle.{Rectangle, end_row, is_empty, meet, rectangle, end_column, spanning}
use Rattle.model_images.specs.Abyss.{nearest}
use Rattle.model_operations.specs.Moves.{moved_into, surrounded}

-- the numbers from one up to another are those from a third up to a fourth
pub record IsSpan (first end first' end' : ℕ) : Type 0 where
  pub count : end - first ≡ end' - first'
  pub start : first < end → first ≡ first'

rectangle-same : (l t l' t' w h : ℕ) → (0 < w → l ≡ l') → (0 < h → t ≡ t') → rectangle l t w h ≡ rectangle l' t' w h
rectangle-same l t l' t' zero h columns rows = refl
rectangle-same l t l' t' (suc w) zero columns rows = rectangle-no_rows l t (suc w) ∙ sym (rectangle-no_rows l' t' (suc w))
rectangle-same l t l' t' (suc w) (suc h) columns rows =
    let first_column : l ≡ l' = columns (omega arith) in
    let first_row : t ≡ t' = rows (omega arith) in
    rw (first_column, first_row) refl

pub spanning-same : (l t r b l' t' r' b' : ℕ) → IsSpan l r l' r' → IsSpan t b t' b' → spanning l t r b ≡ spanning l' t' r' b'
spanning-same l t r b l' t' r' b' columns rows =
    let wide : r' - l' ≡ r - l = sym columns.count in
    let high : b' - t' ≡ b - t = sym rows.count in
    rw (wide, high)
    (rectangle-same l t l' t' (r - l) (b - t)
    (λ some. columns.start (omega arith))
    (λ some. rows.start (omega arith)))

-- a rectangle that is not empty has columns and rows
pub sides : (r : Rectangle) → is_empty r ≡ false → (0 < r.width) × (0 < r.height)
sides r some = (grind (arith, nat_tests), grind (arith, nat_tests))

pub some-is_empty : (r : Rectangle) → 0 < r.width → 0 < r.height → is_empty r ≡ false
some-is_empty r wide high = grind (arith, nat_tests)

pub meet-rectangle : (first_column first_row width height : ℕ) (within : Rectangle) → 0 < width → 0 < height
    → meet (rectangle first_column first_row width height) within
    ≡ spanning (max first_column within.first_column) (max first_row within.first_row) (min (first_column + width) (end_column within)) (min (first_row + height) (end_row within))
meet-rectangle first_column first_row width height within wide high =
    ap (λ (r : Rectangle). meet r within) (rectangle-some first_column first_row width height wide high)

pub meet-spanning : (l t r b : ℕ) (within : Rectangle) → l < r → t < b
    → meet (spanning l t r b) within
    ≡ spanning (max l within.first_column) (max t within.first_row) (min r (end_column within)) (min b (end_row within))
meet-spanning l t r b within wide high =
    let columns : l + (r - l) ≡ r = omega arith in
    let rows : t + (b - t) ≡ b = omega arith in
    let met = meet-rectangle l t (r - l) (b - t) within (omega arith) (omega arith) in
    rw (columns, rows) at met

-- what is in a rectangle of one of another size, clipped to it
pub clipped-rectangle : (first_column first_row width height : ℕ) (within : Rectangle) → 0 < width → 0 < height
    → spanning (max (min first_column (end_column within)) within.first_column) (max (min first_row (end_row within)) within.first_row)
    (min (first_column + width) (end_column within)) (min (first_row + height) (end_row within))
    ≡ meet (rectangle first_column first_row width height) within
clipped-rectangle first_column first_row width height within wide high =
    spanning-same _ _ _ _ _ _ _ _
    (clipped first_column (first_column + width) within.first_column within.width (omega arith))
    (clipped first_row (first_row + height) within.first_row within.height (omega arith))
    ∙ sym (meet-rectangle first_column first_row width height within wide high)
  where
    clipped : (first end start len : ℕ) → first < end
        → IsSpan (max (min first (start + len)) start) (min end (start + len)) (max first start) (min end (start + len))
    clipped first end start len some = record { count = omega arith; start = λ inside. omega arith }

-- ---- surrounded

surrounded-some : (by : ℕ) (r : Rectangle) → is_empty r ≡ false
    → surrounded by r ≡ spanning (r.first_column - by) (r.first_row - by) (end_column r + by) (end_row r + by)
surrounded-some by r some = rw some refl

pub meet-surrounded : (by : ℕ) (part within : Rectangle) → is_empty part ≡ false
    → meet (surrounded by part) within
    ≡ spanning (max (part.first_column - by) within.first_column) (max (part.first_row - by) within.first_row)
    (min (end_column part + by) (end_column within)) (min (end_row part + by) (end_row within))
meet-surrounded by part within some =
    let wide : 0 < part.width = (sides part some).0 in
    let high : 0 < part.height = (sides part some).1 in
    ap (λ (r : Rectangle). meet r within) (surrounded-some by part some)
    ∙ meet-spanning (part.first_column - by) (part.first_row - by) (end_column part + by) (end_row part + by) within (omega arith) (omega arith)

-- ---- the nearest positions

moved_into-some : (within : Rectangle) (l t r b : ℕ) → is_empty within ≡ false → l < r → t < b
    → moved_into within (record { first_column = l; first_row = t; width = r - l; height = b - t })
    ≡ spanning (nearest within.first_column within.width l) (nearest within.first_row within.height t)
    (nearest within.first_column within.width (r - 1) + 1) (nearest within.first_row within.height (b - 1) + 1)
moved_into-some within l t r b there wide high =
    let columns : l + (r - l) ≡ r = omega arith in
    let rows : t + (b - t) ≡ b = omega arith in
    let some = some-is_empty (record { first_column = l; first_row = t; width = r - l; height = b - t }) (omega arith) (omega arith) in
    rw (there, some, columns, rows) refl

inside : (first end start last : ℕ) → start ≤ first → end ≤ last → IsSpan (max first start) (min end last) first end
inside first end start last from to = record { count = omega arith; start = λ some. omega arith }

-- a rectangle that is in another
meet-inside : (l t r b : ℕ) (within : Rectangle) → l < r → t < b → within.first_column ≤ l → within.first_row ≤ t → r ≤ end_column within → b ≤ end_row within
    → meet (spanning l t r b) within ≡ spanning l t r b
meet-inside l t r b within wide high from_left from_top to_right to_bottom =
    meet-spanning l t r b within wide high
    ∙ spanning-same _ _ _ _ _ _ _ _
    (inside l r within.first_column (end_column within) from_left to_right)
    (inside t b within.first_row (end_row within) from_top to_bottom)

-- what is nearest to the first and to the last of several numbers
record IsReach (start len first end : ℕ) : Type 0 where
  some : nearest start len first < nearest start len (end - 1) + 1
  from : start ≤ nearest start len first
  to : nearest start len (end - 1) + 1 ≤ start + len

reach : (start len first end : ℕ) → 0 < len → first < end → IsReach start len first end
reach start len first end p q = record { some = omega arith; from = omega arith; to = omega arith }

meet-nearest : (within : Rectangle) (l t r b : ℕ) → is_empty within ≡ false → l < r → t < b
    → meet (moved_into within (record { first_column = l; first_row = t; width = r - l; height = b - t })) within
    ≡ spanning (nearest within.first_column within.width l) (nearest within.first_row within.height t)
    (nearest within.first_column within.width (r - 1) + 1) (nearest within.first_row within.height (b - 1) + 1)
meet-nearest within l t r b there wide high =
    let x = reach within.first_column within.width l r (sides within there).0 wide in
    let y = reach within.first_row within.height t b (sides within there).1 high in
    ap (λ (s : Rectangle). meet s within) (moved_into-some within l t r b there wide high)
    ∙ meet-inside
    (nearest within.first_column within.width l) (nearest within.first_row within.height t)
    (nearest within.first_column within.width (r - 1) + 1) (nearest within.first_row within.height (b - 1) + 1)
    within x.some y.some x.from y.from x.to y.to

pub meet-moved_into : (by : ℕ) (part within : Rectangle) → is_empty part ≡ false → is_empty within ≡ false
    → meet (moved_into within (surrounded by part)) within
    ≡ spanning (nearest within.first_column within.width (part.first_column - by)) (nearest within.first_row within.height (part.first_row - by))
    (nearest within.first_column within.width (end_column part + by - 1) + 1) (nearest within.first_row within.height (end_row part + by - 1) + 1)
meet-moved_into by part within some there =
    let part_sides = sides part some in
    let wide : part.first_column - by < end_column part + by = omega (arith, part_sides.0) in
    let high : part.first_row - by < end_row part + by = omega (arith, part_sides.1) in
    let around = rectangle-some (part.first_column - by) (part.first_row - by) (end_column part + by - (part.first_column - by)) (end_row part + by - (part.first_row - by))
    (omega arith) (omega arith) in
    ap (λ (s : Rectangle). meet (moved_into within s) within) (surrounded-some by part some ∙ around)
    ∙ meet-nearest within (part.first_column - by) (part.first_row - by) (end_column part + by) (end_row part + by) there wide high
