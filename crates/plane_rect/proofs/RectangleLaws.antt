-- Laws of rectangles and of the order of their positions.
use Rattle.std.proofs.Common.{◌*◌, ◌≡◌, ℕ, ◌+◌, ◌-◌, ◌/◌, ◌%◌, ◌<◌, ◌≤◌, inl, inr, Bool, true, false, not, if◌then◌else◌, min, max, refl, ap, arith, mul_comm, ◌^◌}
use Rattle.std.proofs.lemmas.Bool.{cases_lt}
use Rattle.std.proofs.lemmas.Bool.Decides.{nat_tests}
use Rattle.std.proofs.lemmas.Nat.{row_fits, mul-le, mul-add-lt, div-mul-add, mod-mul-add, div_below, mod_below, div-add-mod'}
use Rattle.plane_rect.specs.Rectangle.{Rectangle, Within, Inside, Includes, IsRectangle, area, end_row, empty, halved, half, hull, is_empty, meet, offset, plane_side, end_column, spanning}
use Rattle.plane_rect.proofs.Differences.{no_positions, reaches}
use Rattle.plane_rect.proofs.Rectangles.{Inside-spanning, rectangle-no_rows, rectangle-some, some_or_empty}

-- ---- rectangles of the plane

pub IsRectangle-empty : IsRectangle empty
IsRectangle-empty = record { columns = omega arith; rows = omega arith; empty_width = λ _. refl; empty_height = λ _. refl }

pub IsRectangle-spanning : (first_column first_row end_column end_row : ℕ) → end_column ≤ plane_side → end_row ≤ plane_side
    → IsRectangle (spanning first_column first_row end_column end_row)
IsRectangle-spanning first_column first_row end_column end_row p q = elim (cases_lt first_column end_column) [
  | inl w ↦ elim (cases_lt first_row end_row) [
    | inl h ↦ rw (rectangle-some first_column first_row (end_column - first_column) (end_row - first_row) (omega arith) (omega arith)) (record {
      columns = omega arith;
      rows = omega arith;
      empty_width = λ e. absurd (omega arith);
      empty_height = λ e. absurd (omega arith);
    })
    | inr h ↦ let none : end_row - first_row ≡ 0 = omega arith in rw (none, rectangle-no_rows first_column first_row (end_column - first_column)) IsRectangle-empty
  ]
  | inr w ↦ let none : end_column - first_column ≡ 0 = omega arith in rw none IsRectangle-empty
]

pub IsRectangle-meet : (a b : Rectangle) → IsRectangle a → IsRectangle b → IsRectangle (meet a b)
IsRectangle-meet a b p q = IsRectangle-spanning (max a.first_column b.first_column) (max a.first_row b.first_row) (min (end_column a) (end_column b)) (min (end_row a) (end_row b)) (omega (arith, p.columns)) (omega (arith, p.rows))

-- from the first columns and rows of two rectangles to after their last
abbrev around : Rectangle → Rectangle → Rectangle
around a b = spanning (min a.first_column b.first_column) (min a.first_row b.first_row) (max (end_column a) (end_column b)) (max (end_row a) (end_row b))

pub IsRectangle-halved : (r : Rectangle) → IsRectangle r → IsRectangle (halved r)
IsRectangle-halved r p =
    IsRectangle-spanning (half r.first_column) (half r.first_row) (half (end_column r + 1)) (half (end_row r + 1)) (omega (arith, p.columns)) (omega (arith, p.rows))

-- ---- hulls

pub Includes-hull_left : (a b : Rectangle) → Includes (hull a b) a
Includes-hull_left a b u v h = cases (is_empty a) refl (is_empty b)
  where
    cases : (s : Bool) → is_empty a ≡ s → (t : Bool) → Inside u v (if s then b else if t then a else around a b)
    cases true e t = absurd (no_positions u v a (ap not e) h)
    cases false e true = h
    cases false e false = (Inside-spanning u v (min a.first_column b.first_column) (min a.first_row b.first_row) (max (end_column a) (end_column b)) (max (end_row a) (end_row b))).1
        (omega (arith, h.column), omega (arith, h.column), omega (arith, h.row), omega (arith, h.row))

pub Includes-hull_right : (a b : Rectangle) → Includes (hull a b) b
Includes-hull_right a b u v h = cases (is_empty a) (is_empty b) refl
  where
    cases : (s t : Bool) → is_empty b ≡ t → Inside u v (if s then b else if t then a else around a b)
    cases true t e = h
    cases false true e = absurd (no_positions u v b (ap not e) h)
    cases false false e = (Inside-spanning u v (min a.first_column b.first_column) (min a.first_row b.first_row) (max (end_column a) (end_column b)) (max (end_row a) (end_row b))).1
        (omega (arith, h.column), omega (arith, h.column), omega (arith, h.row), omega (arith, h.row))

-- ---- positions and their indices

-- the index of a position is one of the rectangle's
pub offset-below : (u v : ℕ) (r : Rectangle) → Inside u v r → offset r u v < area r
offset-below u v r h = mul-add-lt (v - r.first_row) r.width (u - r.first_column) r.height (omega (arith, h.row)) (omega (arith, h.column))

-- a rectangle with an index has columns
wide : (k : ℕ) (r : Rectangle) → k < area r → 0 < r.width
wide k r h = elim (cases_lt 0 r.width) [
  | inl w ↦ w
  | inr w ↦ let none : r.width ≡ 0 = omega arith in absurd (omega (arith, rw none at h))
]

-- the position of an index
pub Inside-index : (k : ℕ) (r : Rectangle) → k < area r → Inside (r.first_column + k % r.width) (r.first_row + k / r.width) r
Inside-index k r h =
    let columns = mod_below k r.width (wide k r h) in
    let rows = div_below k r.width r.height (wide k r h) (omega (arith, h, mul_comm r.width r.height)) in
    record { column = (omega arith, omega (arith, columns)); row = (omega arith, omega (arith, rows)) }

pub offset-index : (k : ℕ) (r : Rectangle) → offset r (r.first_column + k % r.width) (r.first_row + k / r.width) ≡ k
offset-index k r =
    let row : r.first_row + k / r.width - r.first_row ≡ k / r.width = omega arith in
    let column : r.first_column + k % r.width - r.first_column ≡ k % r.width = omega arith in
    rw (row, column) (div-add-mod' k r.width)

-- the column and the row of the position that an index came from
pub offset-column : (u v : ℕ) (r : Rectangle) → Inside u v r → r.first_column + offset r u v % r.width ≡ u
offset-column u v r h =
    let column = mod-mul-add (v - r.first_row) r.width (u - r.first_column) (omega (arith, h.column)) in
    omega (arith, column, h.column)

pub offset-row : (u v : ℕ) (r : Rectangle) → Inside u v r → r.first_row + offset r u v / r.width ≡ v
offset-row u v r h =
    let row = div-mul-add (v - r.first_row) r.width (u - r.first_column) (omega (arith, h.column)) in
    omega (arith, row, h.row)

-- a row of a part of a rectangle ends within the rectangle's positions
pub part_row-fits : (a part : Rectangle) (v : ℕ) → IsRectangle part → Includes a part → Within part.first_row part.height v
    → offset a part.first_column v + part.width ≤ area a
part_row-fits a part v is inside within = elim (some_or_empty part is) [
  | inl some ↦
      let reach = reaches a part (grind (arith, nat_tests, some)) inside in
      let row : v - a.first_row < a.height = omega (arith, within, reach) in
      let columns : part.first_column - a.first_column + part.width ≤ a.width = omega (arith, reach) in
      let rows : (v - a.first_row) * a.width + a.width ≤ a.height * a.width = row_fits (v - a.first_row) a.width a.height a.width row (omega arith) in
      omega (arith, rows, columns, mul_comm a.height a.width)
  | inr none ↦ absurd (omega (arith, within, ap (λ (r : Rectangle). r.height) none))
]

-- the positions of a rectangle of the plane are few
pub area-fits : (r : Rectangle) → IsRectangle r → area r ≤ 2 ^ 50
area-fits r is = mul-le r.width r.height (2 ^ 25) (2 ^ 25) (omega (arith, is.columns)) (omega (arith, is.rows))
