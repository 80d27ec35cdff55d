-- Laws of rectangles.
use Rattle.std.proofs.Common.{◌≡◌, ℕ, zero, suc, ◌+◌, ℤ, pos, negsuc, ◌≤ℤ◌, ◌+ℤ◌, ◌<◌, ◌≤◌, ◌↔◌, ◌⊎◌, inl, inr, arith, Ok, Err, refl, unsigned_abs, false, IsTrue, Result, ap, ◌≢◌, sym, subst}
use Rattle.std.proofs.lemmas.Int.{ints}
use Rattle.std.proofs.lemmas.Bool.{cases_lt}
use Rattle.std.proofs.lemmas.Bool.Decides.{nat_tests}
use Rattle.plane_rect.specs.declared.rect.RectRefused.{RectRefused}
use Rattle.plane_rect.specs.declared.rect.RectRefused.TheVariants.{Place, Size}
use Rattle.plane_rect.specs.Rectangle.{IsRectangle, empty, origin, spanning, plane_side, AreFields, BeginsInside, BeginsOutside, EndsInside, EndsOutside, placed, WithinSigned, Inside, InsideSigned, IsCoordinate, IsNoCoordinate, IsExtent, IsNoExtent, is_coordinate, is_extent, begins_inside, ends_inside, new_rectangle, rectangle, plane_index, plane_coordinate, StartsInPlane, Rectangle, meet}

pub Inside-spanning : (u v first_column first_row end_column end_row : ℕ)
    → Inside u v (spanning first_column first_row end_column end_row) ↔ ((first_column ≤ u) × (u < end_column) × (first_row ≤ v) × (v < end_row))
Inside-spanning u v first_column first_row end_column end_row = grind (arith, nat_tests)

pub Inside-meet : (u v : ℕ) (a b : Rectangle) → Inside u v (meet a b) ↔ (Inside u v a × Inside u v b)
Inside-meet u v a b = grind arith

pub plane_coordinate-plane_index : (z : ℤ) → StartsInPlane z → plane_coordinate (plane_index z) ≡ z
plane_coordinate-plane_index (pos n) h = omega (arith, ints)
plane_coordinate-plane_index (negsuc n) h = omega (arith, ints)

pub coordinate_test : (z : ℤ) → (IsTrue (is_coordinate z) × IsCoordinate z) ⊎ ((is_coordinate z ≡ false) × IsNoCoordinate z)
coordinate_test z = grind (arith, ints)

pub extent_test : (z len : ℤ) → (IsTrue (is_extent z len) × IsExtent z len) ⊎ ((is_extent z len ≡ false) × IsNoExtent z len)
extent_test z len = grind (arith, ints)

begins_test : (x y : ℤ)
    → (IsTrue (begins_inside x y) × BeginsInside x y)
    ⊎ ((begins_inside x y ≡ false) × BeginsOutside x y)
begins_test x y = elim (coordinate_test x) [
  | inl t ↦ elim (coordinate_test y) [
    | inl s ↦ inl (rw (t.0, s.0) refl, (t.1, s.1))
    | inr s ↦ inr (rw (t.0, s.0) refl, inr s.1)
  ]
  | inr t ↦ inr (rw t.0 refl, inl t.1)
]

ends_test : (x y w h : ℤ)
    → (IsTrue (ends_inside x y w h) × EndsInside x y w h)
    ⊎ ((ends_inside x y w h ≡ false) × EndsOutside x y w h)
ends_test x y w h = elim (extent_test x w) [
  | inl t ↦ elim (extent_test y h) [
    | inl s ↦ inl (rw (t.0, s.0) refl, (t.1, s.1))
    | inr s ↦ inr (rw (t.0, s.0) refl, inr s.1)
  ]
  | inr t ↦ inr (rw t.0 refl, inl t.1)
]

no_coordinate : (z : ℤ) → IsCoordinate z → ¬ IsNoCoordinate z
no_coordinate z p (inl q) = omega (arith, ints)
no_coordinate z p (inr q) = omega (arith, ints)

no_extent : (z len : ℤ) → IsExtent z len → ¬ IsNoExtent z len
no_extent z len p (inl q) = omega (arith, ints)
no_extent z len p (inr q) = omega (arith, ints)

not_begins_outside : (x y : ℤ) → BeginsInside x y → ¬ BeginsOutside x y
not_begins_outside x y p (inl q) = no_coordinate x p.0 q
not_begins_outside x y p (inr q) = no_coordinate y p.1 q

not_ends_outside : (x y w h : ℤ) → EndsInside x y w h → ¬ EndsOutside x y w h
not_ends_outside x y w h p (inl q) = no_extent x w p.0 q
not_ends_outside x y w h p (inr q) = no_extent y h p.1 q

-- when `new_rectangle` refuses a position, and when a size
place_refused : (x y w h : ℤ) → (new_rectangle x y w h ≡ Err Place) ↔ BeginsOutside x y
place_refused x y w h = elim (begins_test x y) [
  | inl t ↦ elim (ends_test x y w h) [
    | inl s ↦ rw (t.0, s.0) (λ e. cc, λ p. absurd (not_begins_outside x y t.1 p))
    | inr s ↦ rw (t.0, s.0) (λ e. cc, λ p. absurd (not_begins_outside x y t.1 p))
  ]
  | inr t ↦ rw t.0 (λ _. t.1, λ _. refl)
]

size_refused : (x y w h : ℤ)
    → (new_rectangle x y w h ≡ Err Size) ↔ (BeginsInside x y × EndsOutside x y w h)
size_refused x y w h = elim (begins_test x y) [
  | inl t ↦ elim (ends_test x y w h) [
    | inl s ↦ rw (t.0, s.0) (λ e. cc, λ p. absurd (not_ends_outside x y w h s.1 p.1))
    | inr s ↦ rw (t.0, s.0) (λ _. (t.1, s.1), λ _. refl)
  ]
  | inr t ↦ rw t.0 (λ e. cc, λ p. absurd (not_begins_outside x y p.0 t.1))
]

pub refuses_place : (x y w h : ℤ) (r : Result Rectangle RectRefused) → r ≡ new_rectangle x y w h
    → (r ≡ Err Place) ↔ BeginsOutside x y
refuses_place x y w h r e = rw e (place_refused x y w h)

pub refuses_size : (x y w h : ℤ) (r : Result Rectangle RectRefused) → r ≡ new_rectangle x y w h
    → (r ≡ Err Size) ↔ (BeginsInside x y × EndsOutside x y w h)
refuses_size x y w h r e = rw e (size_refused x y w h)

-- a rectangle of no row is the empty one
pub rectangle-no_rows : (first_column first_row width : ℕ) → rectangle first_column first_row width 0 ≡ empty
rectangle-no_rows first_column first_row width = grind (arith, nat_tests)

pub rectangle-some : (first_column first_row width height : ℕ) → 0 < width → 0 < height
    → rectangle first_column first_row width height ≡ record { first_column = first_column; first_row = first_row; width = width; height = height }
rectangle-some first_column first_row width height p q = grind (arith, nat_tests)

-- the positions of a rectangle that is not before the plane's corner, by signed numbers
InsideSigned-rectangle : (px py x y : ℤ) (w h : ℕ) → StartsInPlane x → StartsInPlane y
    → InsideSigned px py (rectangle (plane_index x) (plane_index y) w h) ↔ (WithinSigned x (pos w) px × WithinSigned y (pos h) py)
InsideSigned-rectangle px py x y zero h p q =
    (λ t. absurd (omega (arith, ints, t.0)), λ t. absurd (omega (arith, ints, t.0)))
InsideSigned-rectangle px py x y (suc w) zero p q =
    rw (rectangle-no_rows (plane_index x) (plane_index y) (suc w))
    (λ t. absurd (omega (arith, ints, t.0)), λ t. absurd (omega (arith, ints, t.1)))
InsideSigned-rectangle px py x y (suc w) (suc h) p q =
    let P : ℤ → ℤ → Type 0 = λ first_column first_row.
    (WithinSigned first_column (pos (suc w)) px × WithinSigned first_row (pos (suc h)) py)
    ↔ (WithinSigned x (pos (suc w)) px × WithinSigned y (pos (suc h)) py) in
    rw (rectangle-some (plane_index x) (plane_index y) (suc w) (suc h) (omega arith) (omega arith))
    (subst (λ (first_column : ℤ). P first_column (plane_coordinate (plane_index y))) (sym (plane_coordinate-plane_index x p))
    (subst (λ (first_row : ℤ). P x first_row) (sym (plane_coordinate-plane_index y q)) (λ t. t, λ t. t)))

-- the positions of a rectangle that `new_rectangle` gives
pub new_rectangle-positions : (x y w h : ℤ) (r : Rectangle) → Ok r ≡ new_rectangle x y w h → (px py : ℤ)
    → InsideSigned px py r ↔ (WithinSigned x w px × WithinSigned y h py)
new_rectangle-positions x y w h r e px py = elim (begins_test x y) [
  | inl t ↦ elim (ends_test x y w h) [
    | inl s ↦
        let wide : pos (unsigned_abs w) ≡ w = unsigned w s.1.0.0 in
        let high : pos (unsigned_abs h) ≡ h = unsigned h s.1.1.0 in
        let is : r ≡ rectangle (plane_index x) (plane_index y) (unsigned_abs w) (unsigned_abs h) = cc (rw (t.0, s.0) at e) in
        let is_inside = InsideSigned-rectangle px py x y (unsigned_abs w) (unsigned_abs h) t.1.0.0 t.1.1.0 in
        rw is (rw (wide, high) at is_inside)
    | inr s ↦ absurd (cc (rw (t.0, s.0) at e))
  ]
  | inr t ↦ absurd (cc (rw t.0 at e))
]
  where
    unsigned : (z : ℤ) → pos 0 ≤ℤ z → pos (unsigned_abs z) ≡ z
    unsigned (pos n) p = refl
    unsigned (negsuc n) p = absurd (omega (arith, ints))

-- numbers that a rectangle may have, of which no side is 0, are the fields of one
pub fields : (x y w h : ℤ) → BeginsInside x y → EndsInside x y w h → w ≢ pos 0 → h ≢ pos 0
    → AreFields x y (unsigned_abs w) (unsigned_abs h)
fields x y (pos w) (pos h) p q v t = record {
  column_in_plane = p.0.0;
  row_in_plane = p.1.0;
  rectangle = record {
    columns = within x w p.0.0 q.0.1;
    rows = within y h p.1.0 q.1.1;
    empty_width = λ e. absurd (v (ap pos e));
    empty_height = λ e. absurd (t (ap pos e));
  };
}
  where
    within : (z : ℤ) (len : ℕ) → StartsInPlane z → (z +ℤ pos len) ≤ℤ pos origin → plane_index z + len ≤ plane_side
    within (pos n) len b e = omega (arith, ints)
    within (negsuc n) len b e = omega (arith, ints)
fields x y (pos w) (negsuc h) p q v t = absurd (omega (arith, ints, q.1))
fields x y (negsuc w) h p q v t = absurd (omega (arith, ints, q.0))

pub rectangle-placed : (x y w h : ℤ) → w ≢ pos 0 → h ≢ pos 0
    → placed x y (unsigned_abs w) (unsigned_abs h) ≡ rectangle (plane_index x) (plane_index y) (unsigned_abs w) (unsigned_abs h)
rectangle-placed x y w h v t = sym (rectangle-some (plane_index x) (plane_index y) (unsigned_abs w) (unsigned_abs h) (some w v) (some h t))
  where
    some : (z : ℤ) → z ≢ pos 0 → 0 < unsigned_abs z
    some (pos n) e = grind arith
    some (negsuc n) e = omega arith

-- a rectangle of the plane has a position, or is the empty one
pub some_or_empty : (r : Rectangle) → IsRectangle r → ((0 < r.width) × (0 < r.height)) ⊎ (r ≡ empty)
some_or_empty r is = elim (cases_lt 0 r.width) [
  | inl w ↦ elim (cases_lt 0 r.height) [ inl h ↦ inl (w, h) | inr h ↦ inr (is.empty_height (omega arith)) ]
  | inr w ↦ inr (is.empty_width (omega arith))
]

-- ---- positions with signs and without

-- a position is in a rectangle by its x and y as it does by its column and row
pub InsideSigned-coordinates : (u v : ℕ) (r : Rectangle) → InsideSigned (plane_coordinate u) (plane_coordinate v) r ↔ Inside u v r
InsideSigned-coordinates u v r = (
  λ h. record { column = (omega (arith, ints, h.0), omega (arith, ints, h.0)); row = (omega (arith, ints, h.1), omega (arith, ints, h.1)) },
  λ h. ((omega (arith, ints, h.column), omega (arith, ints, h.column)), (omega (arith, ints, h.row), omega (arith, ints, h.row))),
)

-- no position before the plane's corner is in a rectangle
pub InsideSigned-index : (x y : ℤ) (r : Rectangle)
    → InsideSigned x y r ↔ (StartsInPlane x × StartsInPlane y × Inside (plane_index x) (plane_index y) r)
InsideSigned-index x y r = (
  λ h. let a : StartsInPlane x = omega (arith, ints, h.0) in
      let b : StartsInPlane y = omega (arith, ints, h.1) in (
        a,
        b,
        (InsideSigned-coordinates (plane_index x) (plane_index y) r).0
            (subst (λ (z : ℤ). InsideSigned z (plane_coordinate (plane_index y)) r) (sym (plane_coordinate-plane_index x a))
            (subst (λ (z : ℤ). InsideSigned x z r) (sym (plane_coordinate-plane_index y b)) h)),
      ),
  λ h. subst (λ (z : ℤ). InsideSigned x z r) (plane_coordinate-plane_index y h.1)
      (subst (λ (z : ℤ). InsideSigned z (plane_coordinate (plane_index y)) r) (plane_coordinate-plane_index x h.0)
      ((InsideSigned-coordinates (plane_index x) (plane_index y) r).1 h.2)),
)
