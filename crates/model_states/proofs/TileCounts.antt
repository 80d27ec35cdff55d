-- A box in limits meets at most 10,244 tiles, and so does a hull of rectangles in it.
use Rattle.std.proofs.Common.{◌≡◌, ℕ, ◌+◌, ◌-◌, ◌*◌, ◌/◌, ◌^◌, ◌<◌, ◌≤◌, ◌⊎◌, ◌||◌, Bool, true, false, cond, eqb, List, [], ◌∷◌, filter, length, inl, inr, min, max, refl, sym, ap, subst, arith}
use Rattle.std.specs.List.{AllByRecursion, list_any}
use Rattle.std.proofs.lemmas.Bool.Decides.{nat_tests}
use Rattle.std.proofs.lemmas.Nat.{mul-le}
use Rattle.plane_rect.specs.Rectangle.{InLimits, Includes, Inside, Rectangle, empty, end_column, end_row, hull, is_empty, rectangle, spanning}
use Rattle.plane_rect.specs.Tile.{tile_columns, tile_lines, tiles, meets}
use Rattle.plane_rect.proofs.TileLists.{length-tiles}
use Rattle.model_states.specs.Regions.{hull_of, tiles_of_any}

-- the sides of a rectangle are between those of a box
record IsBetween (box r : Rectangle) : Type 0 where
  left : box.first_column ≤ r.first_column
  top : box.first_row ≤ r.first_row
  right : r.first_column + r.width ≤ box.first_column + box.width
  bottom : r.first_row + r.height ≤ box.first_row + box.height

-- the empty rectangle, or one whose sides are between those of a box
abbrev IsSmall : Rectangle → Rectangle → Type 0
IsSmall box r = (r ≡ empty) ⊎ IsBetween box r

-- ---- hulls

between-included : (box r : Rectangle) → Includes box r → 0 < r.width → 0 < r.height → IsBetween box r
between-included box r inside wide high =
    let first : Inside r.first_column r.first_row box = inside r.first_column r.first_row (record { column = (omega arith, omega arith); row = (omega arith, omega arith) }) in
    let last : Inside (r.first_column + r.width - 1) (r.first_row + r.height - 1) box =
    inside (r.first_column + r.width - 1) (r.first_row + r.height - 1) (record { column = (omega arith, omega arith); row = (omega arith, omega arith) }) in
    record {
      left = omega (arith, first.column, last.column);
      top = omega (arith, first.row, last.row);
      right = omega (arith, first.column, last.column);
      bottom = omega (arith, first.row, last.row);
    }

-- a rectangle that has positions has columns and rows
pub has-sides : (r : Rectangle) → is_empty r ≡ false → (0 < r.width) × (0 < r.height)
has-sides r some = by (eqb r.width 0) (eqb r.height 0) refl refl some
  where
    by : (a b : Bool) → eqb r.width 0 ≡ a → eqb r.height 0 ≡ b → (a || b) ≡ false → (0 < r.width) × (0 < r.height)
    by true b e f none = absurd (cc)
    by false true e f none = absurd (cc)
    by false false e f none = (grind (arith, nat_tests), grind (arith, nat_tests))

small-rectangle : (box : Rectangle) (u v w h : ℕ) → box.first_column ≤ u → box.first_row ≤ v → u + w ≤ box.first_column + box.width → v + h ≤ box.first_row + box.height →
    IsSmall box (rectangle u v w h)
small-rectangle box u v w h left top right bottom = by (eqb w 0 || eqb h 0)
  where
    by : (b : Bool) → IsSmall box (cond b empty (record { first_column = u; first_row = v; width = w; height = h }))
    by true = inl refl
    by false = inr (record { left = left; top = top; right = right; bottom = bottom })

small-hull : (box a b : Rectangle) → Includes box a → IsSmall box b → IsSmall box (hull a b)
small-hull box a b inside small = by (is_empty a) (is_empty b) refl refl small
  where
    joined : IsBetween box a → IsBetween box b → IsSmall box (spanning (min a.first_column b.first_column) (min a.first_row b.first_row) (max (end_column a) (end_column b)) (max (end_row a) (end_row b)))
    joined p q =
        small-rectangle box (min a.first_column b.first_column) (min a.first_row b.first_row)
        (max (end_column a) (end_column b) - min a.first_column b.first_column) (max (end_row a) (end_row b) - min a.first_row b.first_row)
        (omega (arith, p.left, q.left)) (omega (arith, p.top, q.top)) (omega (arith, p.left, q.left, p.right, q.right)) (omega (arith, p.top, q.top, p.bottom, q.bottom))

    by : (x y : Bool) → is_empty a ≡ x → is_empty b ≡ y → IsSmall box b →
        IsSmall box (cond x b (cond y a (spanning (min a.first_column b.first_column) (min a.first_row b.first_row) (max (end_column a) (end_column b)) (max (end_row a) (end_row b)))))
    by true y e f small = small
    by false true e f small = let sides = has-sides a e in inr (between-included box a inside sides.0 sides.1)
    by false false e f (inl none) = absurd (let same : is_empty b ≡ true = ap is_empty none in cc)
    by false false e f (inr between) = let sides = has-sides a e in joined (between-included box a inside sides.0 sides.1) between

small-hull_of : (box : Rectangle) (rs : List Rectangle) → AllByRecursion (Includes box) rs → IsSmall box (hull_of rs)
small-hull_of box [] inside = inl refl
small-hull_of box (r ∷ rs) inside = small-hull box r (hull_of rs) inside.0 (small-hull_of box rs inside.1)

-- ---- tiles

columns-between : (box r : Rectangle) → IsBetween box r → tile_columns r ≤ box.width / 64 + 2
columns-between box r is = omega (arith, is.left, is.right)

lines-between : (box r : Rectangle) → IsBetween box r → tile_lines r ≤ box.height / 64 + 2
lines-between box r is = omega (arith, is.top, is.bottom)

-- by the area, where the sides are w and h tiles and less than one more
few-by_area : (w h : ℕ) → w * h ≤ 8192 → w ≤ 512 → h ≤ 512 → (w + 2) * (h + 2) ≤ 10244
few-by_area w h area wide high = let expanded : (w + 2) * (h + 2) ≡ w * h + 2 * w + 2 * h + 4 = omega arith in omega (arith, expanded)

area-in_tiles : (w h : ℕ) → w * h ≤ 2 ^ 25 → (w / 64) * (h / 64) ≤ 8192
area-in_tiles w h area =
    let columns : w / 64 * 64 ≤ w = omega arith in
    let rows : h / 64 * 64 ≤ h = omega arith in
    let less : (w / 64 * 64) * (h / 64 * 64) ≤ w * h = mul-le (w / 64 * 64) (h / 64 * 64) w h columns rows in
    let regrouped : (w / 64 * 64) * (h / 64 * 64) ≡ 4096 * ((w / 64) * (h / 64)) = omega arith in
    omega (arith, less, regrouped, area)

few-between : (box r : Rectangle) → InLimits box → IsBetween box r → length (tiles r) ≤ 10244
few-between box r limits is =
    let product = mul-le (tile_lines r) (tile_columns r) (box.height / 64 + 2) (box.width / 64 + 2) (lines-between box r is) (columns-between box r is) in
    let area : (box.height / 64) * (box.width / 64) ≤ 8192 = area-in_tiles box.height box.width (let turned : box.height * box.width ≡ box.width * box.height = omega arith in omega (arith, turned, limits.2)) in
    let few = few-by_area (box.height / 64) (box.width / 64) area (omega (arith, limits.1)) (omega (arith, limits.0)) in
    omega (arith, product, few, length-tiles r)

few-small : (box r : Rectangle) → InLimits box → IsSmall box r → length (tiles r) ≤ 10244
few-small box r limits (inl none) = subst (λ (r : Rectangle). length (tiles r) ≤ 10244) (sym none) (omega (arith, length-tiles empty))
few-small box r limits (inr between) = few-between box r limits between

filter-shorter : {X : Type 0} (test : X → Bool) (xs : List X) → length (filter test xs) ≤ length xs
filter-shorter test [] = omega arith
filter-shorter test (x ∷ xs) = by (test x) (filter-shorter test xs)
  where
    by : (b : Bool) → length (filter test xs) ≤ length xs → length (cond b (x ∷ filter test xs) (filter test xs)) ≤ length (x ∷ xs)
    by true rest = omega (arith, rest)
    by false rest = omega (arith, rest)

-- what is asked of an image in limits are few tiles
pub tiles_of_any-few : (box : Rectangle) (rs : List Rectangle) → InLimits box → AllByRecursion (Includes box) rs → length (tiles_of_any rs) ≤ 10244
tiles_of_any-few box rs limits inside =
    let kept = filter-shorter (λ t. list_any (meets t) rs) (tiles (hull_of rs)) in
    let few = few-small box (hull_of rs) limits (small-hull_of box rs inside) in
    omega (arith, kept, few)

-- a rectangle in limits has few rows of tiles
pub lines-few : (r : Rectangle) → InLimits r → tile_lines r ≤ 514
lines-few r limits = omega (arith, limits.1)
