-- The laws of rectangles moved, grown and scaled.
use Rattle.std.proofs.Common.{◌≡◌, ◌≢◌, ℕ, ℤ, pos, zero, suc, ◌+◌, ◌-◌, ◌*◌, ◌/◌, ◌%◌, ◌^◌, ◌<◌, ◌≤◌, ◌+ℤ◌, ◌*ℤ◌, ◌↔◌, ◌⊎◌, inl, inr, false, Ok, Err, Result, IfOk, refl, ap, sym, ◌∙◌, subst, arith, min, max, w64, FitsSigned, unsigned_abs}
use Rattle.std.proofs.lemmas.Int.{ints, fits_signed_mul}
use Rattle.std.proofs.lemmas.Bool.Decides.{nat_tests}
use Rattle.std.specs.Int.{saturate_signed}
use Rattle.plane_rect.specs.declared.rect.RectRefused.{RectRefused}
use Rattle.plane_rect.specs.declared.rect.RectRefused.TheVariants.{Place, Size}
use Rattle.plane_rect.specs.Rectangle.{Rectangle, BeginsInside, BeginsOutside, EndsOutside, moved_x, moved_y, Inside, InsideSigned, InsideHalved, InsideGrown, AreNear, Within, WithinSigned, IsRectangle, IsCoordinate, IsNoCoordinate, empty, is_empty, spanning, end_column, end_row, plane_coordinate, plane_side, origin, new_rectangle, shifted, half, halved, coarse, enlarged}
use Rattle.plane_rect.proofs.Rectangles.{Inside-spanning, new_rectangle-positions, refuses_place, refuses_size, some_or_empty, InsideSigned-coordinates}

-- ---- halves

-- along one side: the halves of some numbers in a row
half-within : (start len n : ℕ) → 0 < len
    → ((half start ≤ n) × (n < half (start + len + 1))) ↔ ((m : ℕ) × Within start len m × (n ≡ half m))
half-within start len n some = (λ h. (max start (2 * (n - origin / 2)), (omega arith, omega arith), omega arith), λ h. (omega (arith, h.1, h.2), omega (arith, h.1, h.2)))

pub halved-positions : (u v : ℕ) (r : Rectangle) → IsRectangle r → Inside u v (halved r) ↔ InsideHalved u v r
halved-positions u v r is = elim (some_or_empty r is) [
  | inl some ↦
      let spans = Inside-spanning u v (half r.first_column) (half r.first_row) (half (end_column r + 1)) (half (end_row r + 1)) in
      let columns = half-within r.first_column r.width u some.0 in
      let rows = half-within r.first_row r.height v some.1 in (
        λ h. let t = spans.0 h in
            let x = columns.0 (t.0, t.1) in
            let y = rows.0 (t.2, t.3) in
            (x.0, y.0, record { column = x.1; row = y.1 }, x.2, y.2),
        λ h. let x = columns.1 (h.0, h.2.column, h.3) in
            let y = rows.1 (h.1, h.2.row, h.4) in
            spans.1 (x.0, x.1, y.0, y.1),
      )
  | inr none ↦
      subst (λ (r : Rectangle). Inside u v (halved r) ↔ InsideHalved u v r) (sym none)
      (λ h. absurd (omega (arith, h.column)), λ h. absurd (omega (arith, h.2.column)))
]

-- ---- moved sides

-- along one side: numbers that are near to some in a row
near-within : (start len by n : ℕ) → 0 < len → by ≤ start
    → ((start - by ≤ n) × (n < start + len + by)) ↔ ((m : ℕ) × Within start len m × AreNear by n m)
near-within start len by n some after = (λ h. (max start (min n (start + len - 1)), (omega arith, omega arith), (omega arith, omega arith)), λ h. (omega (arith, h.1, h.2), omega (arith, h.1, h.2)))

saturated : (z : ℤ) → (IsCoordinate z × (saturate_signed w64 z ≡ z)) ⊎ (IsNoCoordinate z × IsNoCoordinate (saturate_signed w64 z))
saturated z = grind (arith, ints)

-- the positions of a grown rectangle
pub grown-positions : (by u v : ℕ) (r : Rectangle) → is_empty r ≡ false → by ≤ r.first_column → by ≤ r.first_row
    → Inside u v (spanning (r.first_column - by) (r.first_row - by) (end_column r + by) (end_row r + by)) ↔ InsideGrown by u v r
grown-positions by u v r some first_column first_row =
    let spans = Inside-spanning u v (r.first_column - by) (r.first_row - by) (end_column r + by) (end_row r + by) in
    let wide : 0 < r.width = grind (arith, nat_tests) in
    let high : 0 < r.height = grind (arith, nat_tests) in
    let columns = near-within r.first_column r.width by u wide first_column in
    let rows = near-within r.first_row r.height by v high first_row in (
      λ h. let t = spans.0 h in
          let x = columns.0 (t.0, t.1) in
          let y = rows.0 (t.2, t.3) in
          (x.0, y.0, record { column = x.1; row = y.1 }, x.2, y.2),
      λ h. let x = columns.1 (h.0, h.2.column, h.3) in
          let y = rows.1 (h.1, h.2.row, h.4) in
          spans.1 (x.0, x.1, y.0, y.1),
    )

-- what saturates is outside the plane, on the same side
new_rectangle-saturated : (x y w h : ℤ)
    → new_rectangle (saturate_signed w64 x) (saturate_signed w64 y) w h ≡ new_rectangle x y w h
new_rectangle-saturated x y w h = elim (saturated x) [
  | inl p ↦ elim (saturated y) [
    | inl q ↦ ap (λ (z : ℤ). new_rectangle z (saturate_signed w64 y) w h) p.1 ∙ ap (λ (z : ℤ). new_rectangle x z w h) q.1
    | inr q ↦ refused (inr q.1) (inr q.0)
  ]
  | inr p ↦ refused (inl p.1) (inl p.0)
]
  where
    refused : IsNoCoordinate (saturate_signed w64 x) ⊎ IsNoCoordinate (saturate_signed w64 y) → IsNoCoordinate x ⊎ IsNoCoordinate y
        → new_rectangle (saturate_signed w64 x) (saturate_signed w64 y) w h ≡ new_rectangle x y w h
    refused s t =
        (refuses_place (saturate_signed w64 x) (saturate_signed w64 y) w h _ refl).1 s ∙ sym ((refuses_place x y w h _ refl).1 t)

pub shifted-saturated : (dx dy : ℤ) (r : Rectangle) → is_empty r ≡ false
    → new_rectangle (saturate_signed w64 (moved_x dx r)) (saturate_signed w64 (moved_y dy r)) (pos r.width) (pos r.height)
    ≡ shifted dx dy r
shifted-saturated dx dy r some =
    new_rectangle-saturated (moved_x dx r) (moved_y dy r) (pos r.width) (pos r.height) ∙ rw some refl

-- the positions of a moved rectangle, whose fields are those that it had moved
shifted-positions : (dx dy : ℤ) (r moved : Rectangle) → is_empty r ≡ false → Ok moved ≡ shifted dx dy r → (x y : ℤ)
    → InsideSigned (x +ℤ dx) (y +ℤ dy) moved ↔ InsideSigned x y r
shifted-positions dx dy r moved some e x y =
    let fields : Ok moved ≡ new_rectangle (moved_x dx r) (moved_y dy r) (pos r.width) (pos r.height) = e ∙ rw some refl in
    let is_inside = new_rectangle-positions (moved_x dx r) (moved_y dy r) (pos r.width) (pos r.height) moved fields (x +ℤ dx) (y +ℤ dy) in (
      λ h. let t = is_inside.0 h in
          ((omega (arith, ints, t.0), omega (arith, ints, t.0)), (omega (arith, ints, t.1), omega (arith, ints, t.1))),
      λ h. is_inside.1 ((omega (arith, ints, h.0), omega (arith, ints, h.0)), (omega (arith, ints, h.1), omega (arith, ints, h.1))),
    )

-- what a call that moves a rectangle with a position says of its answer
module _ (dx dy : ℤ) (r : Rectangle) (some : is_empty r ≡ false) (moved : Result Rectangle RectRefused) (is : moved ≡ shifted dx dy r) where
  some_position : r ≢ empty
  some_position e = cc (rw e at some)

  by_fields : moved ≡ new_rectangle (moved_x dx r) (moved_y dy r) (pos r.width) (pos r.height)
  by_fields = is ∙ rw some refl

  pub shifted-refuses_place : (moved ≡ Err Place)
      ↔ ((r ≢ empty) × BeginsOutside (moved_x dx r) (moved_y dy r))
  shifted-refuses_place =
      let refuses = refuses_place (moved_x dx r) (moved_y dy r) (pos r.width) (pos r.height) moved by_fields in
      (λ e. (some_position, refuses.0 e), λ h. refuses.1 h.1)

  pub shifted-refuses_size : (moved ≡ Err Size)
      ↔ ((r ≢ empty) × BeginsInside (moved_x dx r) (moved_y dy r)
      × EndsOutside (moved_x dx r) (moved_y dy r) (pos r.width) (pos r.height))
  shifted-refuses_size =
      let refuses = refuses_size (moved_x dx r) (moved_y dy r) (pos r.width) (pos r.height) moved by_fields in
      (λ e. let h = refuses.0 e in (some_position, h.0, h.1), λ h. refuses.1 (h.1, h.2))

pub shifted-moves : (dx dy : ℤ) (r : Rectangle) → is_empty r ≡ false → (moved : Result Rectangle RectRefused) → moved ≡ shifted dx dy r
    → IfOk moved (λ q. (x y : ℤ) → InsideSigned (x +ℤ dx) (y +ℤ dy) q ↔ InsideSigned x y r)
shifted-moves dx dy r some (Ok q) is = shifted-positions dx dy r q some is
shifted-moves dx dy r some (Err refused) is = tt

-- ---- scaled sides

-- a factor of a level is small, and no bit of it is lost in 64
pub factor : (level : ℕ) → level ≤ 8 → ((1 * 2 ^ level) % 2 ^ 64 ≡ 2 ^ level) × (2 ^ level ≤ 256)
factor zero h = (refl, omega arith)
factor (suc zero) h = (refl, omega arith)
factor (suc (suc zero)) h = (refl, omega arith)
factor (suc (suc (suc zero))) h = (refl, omega arith)
factor (suc (suc (suc (suc zero)))) h = (refl, omega arith)
factor (suc (suc (suc (suc (suc zero))))) h = (refl, omega arith)
factor (suc (suc (suc (suc (suc (suc zero)))))) h = (refl, omega arith)
factor (suc (suc (suc (suc (suc (suc (suc zero))))))) h = (refl, omega arith)
factor (suc (suc (suc (suc (suc (suc (suc (suc zero)))))))) h = (refl, omega arith)
factor (suc (suc (suc (suc (suc (suc (suc (suc (suc k))))))))) h = absurd (omega arith)

pub times-fits : (n : ℤ) (level : ℕ) → level ≤ 8 → unsigned_abs n ≤ plane_side → FitsSigned w64 (n *ℤ pos (2 ^ level))
times-fits n level h small = fits_signed_mul w64 n (pos (2 ^ level)) plane_side 256 small (factor level h).1 (omega arith)

scaled-within : (level start len n : ℕ) → level ≤ 8
    → WithinSigned (plane_coordinate start *ℤ pos (2 ^ level)) (pos len *ℤ pos (2 ^ level)) (plane_coordinate n) ↔ Within start len (coarse level n)
scaled-within zero start len n h = (λ w. (omega (arith, ints, w), omega (arith, ints, w)), λ w. (omega (arith, ints, w), omega (arith, ints, w)))
scaled-within (suc zero) start len n h = (λ w. (omega (arith, ints, w), omega (arith, ints, w)), λ w. (omega (arith, ints, w), omega (arith, ints, w)))
scaled-within (suc (suc zero)) start len n h = (λ w. (omega (arith, ints, w), omega (arith, ints, w)), λ w. (omega (arith, ints, w), omega (arith, ints, w)))
scaled-within (suc (suc (suc zero))) start len n h = (λ w. (omega (arith, ints, w), omega (arith, ints, w)), λ w. (omega (arith, ints, w), omega (arith, ints, w)))
scaled-within (suc (suc (suc (suc zero)))) start len n h = (λ w. (omega (arith, ints, w), omega (arith, ints, w)), λ w. (omega (arith, ints, w), omega (arith, ints, w)))
scaled-within (suc (suc (suc (suc (suc zero))))) start len n h = (λ w. (omega (arith, ints, w), omega (arith, ints, w)), λ w. (omega (arith, ints, w), omega (arith, ints, w)))
scaled-within (suc (suc (suc (suc (suc (suc zero)))))) start len n h = (λ w. (omega (arith, ints, w), omega (arith, ints, w)), λ w. (omega (arith, ints, w), omega (arith, ints, w)))
scaled-within (suc (suc (suc (suc (suc (suc (suc zero))))))) start len n h = (λ w. (omega (arith, ints, w), omega (arith, ints, w)), λ w. (omega (arith, ints, w), omega (arith, ints, w)))
scaled-within (suc (suc (suc (suc (suc (suc (suc (suc zero)))))))) start len n h = (λ w. (omega (arith, ints, w), omega (arith, ints, w)), λ w. (omega (arith, ints, w), omega (arith, ints, w)))
scaled-within (suc (suc (suc (suc (suc (suc (suc (suc (suc k))))))))) start len n h = absurd (omega arith)

-- the positions of an enlarged rectangle
enlarged-positions : (level : ℕ) (r q : Rectangle) → level ≤ 8 → Ok q ≡ enlarged level r → (u v : ℕ)
    → Inside u v q ↔ Inside (coarse level u) (coarse level v) r
enlarged-positions level r q small e u v =
    let factor : ℤ = pos (2 ^ level) in
    let is_inside = new_rectangle-positions (plane_coordinate r.first_column *ℤ factor) (plane_coordinate r.first_row *ℤ factor)
    (pos r.width *ℤ factor) (pos r.height *ℤ factor) q e (plane_coordinate u) (plane_coordinate v) in
    let columns = scaled-within level r.first_column r.width u small in
    let rows = scaled-within level r.first_row r.height v small in
    let at = InsideSigned-coordinates u v q in (
      λ h. let t = is_inside.0 (at.1 h) in record { column = columns.0 t.0; row = rows.0 t.1 },
      λ h. at.0 (is_inside.1 (columns.1 h.column, rows.1 h.row)),
    )

pub enlarged-all : (level : ℕ) (r : Rectangle) → level ≤ 8 → (grown : Result Rectangle RectRefused) → grown ≡ enlarged level r
    → IfOk grown (λ q. (u v : ℕ) → Inside u v q ↔ Inside (coarse level u) (coarse level v) r)
enlarged-all level r small (Ok q) is = enlarged-positions level r q small is
enlarged-all level r small (Err refused) is = tt
