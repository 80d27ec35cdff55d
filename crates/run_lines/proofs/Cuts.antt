-- Rectangles that are cut at a row.
use Rattle.std.proofs.Common.{◌≡◌, ℕ, ◌+◌, ◌-◌, ◌*◌, ◌/◌, ◌<◌, ◌≤◌, ◌⊎◌, inl, inr, Bool, true, false, refl, sym, ap, ◌∙◌, arith}
use Rattle.std.specs.Prelude.{min, max}
use Rattle.std.proofs.lemmas.Bool.{cases_lt}
use Rattle.std.proofs.lemmas.Bool.Decides.{nat_tests}
use Rattle.std.proofs.lemmas.Nat.{mul-le}
use Rattle.plane_rect.specs.Rectangle.{IsRectangle, Rectangle, empty, end_column, end_row, hull, includes, is_empty, origin, rectangle, spanning}
use Rattle.plane_rect.specs.Tile.{tile_columns, tile_lines}
use Rattle.plane_rect.proofs.RectangleLaws.{IsRectangle-spanning}
use Rattle.plane_rect.proofs.Rectangles.{Inside-spanning, rectangle-no_rows, rectangle-some, some_or_empty}
use Rattle.plane_rect.proofs.TileLists.{length-tiles}
use Rattle.model_images.proofs.CountLaws.{fewer-tiles}
use Rattle.model_images.specs.TileCounts.{tile_count}
use Rattle.run_lines.specs.Bands.{rows_between}

-- A rectangle has rows above a row, and the row itself.
pub record IsCut (r : Rectangle) (row : ℕ) : Type 0 where
  pub wide : 0 < r.width
  pub first : r.first_row < row
  pub last : row < end_row r

-- so many rows of a rectangle from a row on
abbrev pub rows_at : Rectangle → ℕ → ℕ → Rectangle
rows_at r first height = record { first_column = r.first_column; first_row = first; width = r.width; height = height }

-- the rows above a row
abbrev pub top : Rectangle → ℕ → Rectangle
top r row = rows_at r r.first_row (row - r.first_row)

-- the other rows
abbrev pub bottom : Rectangle → ℕ → Rectangle
bottom r row = rows_at r row (end_row r - row)

-- ---- tests

some_rows : (a : Rectangle) → 0 < a.width → 0 < a.height → is_empty a ≡ false
some_rows a wide high = grind (arith, nat_tests, wide, high)

hull-some : (a b : Rectangle) → is_empty a ≡ false → is_empty b ≡ false
    → hull a b ≡ spanning (min a.first_column b.first_column) (min a.first_row b.first_row) (max (end_column a) (end_column b)) (max (end_row a) (end_row b))
hull-some a b some other = rw (some, other) refl

hull-none : (a b : Rectangle) → is_empty a ≡ true → hull a b ≡ b
hull-none a b none = rw none refl

spanning-some : (c r ec er : ℕ) → c < ec → r < er → spanning c r ec er ≡ record { first_column = c; first_row = r; width = ec - c; height = er - r }
spanning-some c r ec er wide high = rectangle-some c r (ec - c) (er - r) (omega (arith, wide)) (omega (arith, high))

same_span : (c r ec er c' r' ec' er' : ℕ) → c ≡ c' → r ≡ r' → ec ≡ ec' → er ≡ er' → spanning c r ec er ≡ spanning c' r' ec' er'
same_span c r ec er c' r' ec' er' p q s t = rw (p, q, s, t) refl

module _ (r : Rectangle) (row : ℕ) (cut : IsCut r row) where
  whole_height : 0 < r.height
  whole_height = omega (arith, cut.first, cut.last)

  top-some : is_empty (top r row) ≡ false
  top-some = some_rows (top r row) cut.wide (omega (arith, cut.first))

  bottom-some : is_empty (bottom r row) ≡ false
  bottom-some = some_rows (bottom r row) cut.wide (omega (arith, cut.last))

  whole-some : is_empty r ≡ false
  whole-some = some_rows r cut.wide whole_height

  pub hull-parts : hull (bottom r row) (top r row) ≡ r
  hull-parts =
      hull-some (bottom r row) (top r row) bottom-some top-some
      ∙ same_span (min r.first_column r.first_column) (min row r.first_row) (max (end_column r) (end_column r)) (max (row + (end_row r - row)) (r.first_row + (row - r.first_row)))
      r.first_column r.first_row (end_column r) (end_row r) (omega arith) (omega (arith, cut.first)) (omega arith) (omega (arith, cut.first, cut.last))
      ∙ spanning-some r.first_column r.first_row (end_column r) (end_row r) (omega (arith, cut.wide)) (omega (arith, whole_height))
      ∙ same_fields
    where
      same_fields : (let s : Rectangle = record { first_column = r.first_column; first_row = r.first_row; width = end_column r - r.first_column; height = end_row r - r.first_row } in s) ≡ r
      same_fields =
          let w : end_column r - r.first_column ≡ r.width = omega arith in
          let h : end_row r - r.first_row ≡ r.height = omega arith in
          rw (w, h) refl

  -- The hull with both parts is the hull with the whole.
  pub hull-cut : (e : Rectangle) → hull (hull e (bottom r row)) (top r row) ≡ hull e r
  hull-cut e = cases (is_empty e) refl
    where
      cases : (b : Bool) → is_empty e ≡ b → hull (hull e (bottom r row)) (top r row) ≡ hull e r
      cases true none =
          ap (λ (a : Rectangle). hull a (top r row)) (hull-none e (bottom r row) none) ∙ hull-parts ∙ sym (hull-none e r none)
      cases false some =
          let wide : 0 < e.width = grind (arith, nat_tests, some) in
          let high : 0 < e.height = grind (arith, nat_tests, some) in
          let fc = min e.first_column r.first_column in
          let fr = min e.first_row row in
          let ec = max (end_column e) (end_column r) in
          let er = max (end_row e) (row + (end_row r - row)) in
          let first : Rectangle = record { first_column = fc; first_row = fr; width = ec - fc; height = er - fr } in
          let is : hull e (bottom r row) ≡ first =
          hull-some e (bottom r row) some bottom-some ∙ spanning-some fc fr ec er (omega (arith, wide)) (omega (arith, high)) in
          let there : is_empty first ≡ false = some_rows first (omega (arith, wide)) (omega (arith, high)) in
          ap (λ (a : Rectangle). hull a (top r row)) is
          ∙ hull-some first (top r row) there top-some
          ∙ same_span (min fc r.first_column) (min fr r.first_row) (max (fc + (ec - fc)) (end_column r)) (max (fr + (er - fr)) (r.first_row + (row - r.first_row)))
          fc (min e.first_row r.first_row) ec (max (end_row e) (end_row r))
          (omega arith) (omega (arith, cut.first)) (omega (arith, wide)) (omega (arith, high, cut.first, cut.last))
          ∙ sym (hull-some e r some whole-some)

-- ---- parts of a rectangle

pub includes-rows : (extent r : Rectangle) (first height : ℕ) → r.first_row ≤ first → first + height ≤ end_row r → IsRectangle r → includes extent r ≡ true → includes extent (rows_at r first height) ≡ true
includes-rows extent r first height from to is inside = cases (cases_lt 0 height) (some_or_empty r is)
  where
    cases : (0 < height) ⊎ (height ≤ 0) → ((0 < r.width) × (0 < r.height)) ⊎ (r ≡ empty) → includes extent (rows_at r first height) ≡ true
    cases (inl some) (inl (wide, high)) =
        let there : is_empty r ≡ false = some_rows r wide high in
        grind (arith, nat_tests, there, inside, from, to)
    cases (inl some) (inr none) = absurd (let flat : r.height ≡ 0 = ap (λ (r : Rectangle). r.height) none in omega (arith, some, from, to, flat))
    cases (inr flat) other = grind (arith, nat_tests, flat)

pub wide-rows : (r : Rectangle) → IsRectangle r → r.first_row < end_row r → 0 < r.width
wide-rows r is some = elim (some_or_empty r is) [
  | inl both ↦ both.0
  | inr none ↦ absurd (let flat : r.height ≡ 0 = ap (λ (r : Rectangle). r.height) none in omega (arith, some, flat))
]

-- ---- bands

-- the rows of a rectangle from one up to another
module _ (r : Rectangle) (is : IsRectangle r) (first end : ℕ) (from : r.first_row ≤ first) (to : end ≤ end_row r) where
  pub fewer-rows : tile_count (rows_between r first end) ≤ tile_count r
  fewer-rows =
      fewer-tiles r (rows_between r first end)
      (IsRectangle-spanning r.first_column first (end_column r) end (omega (arith, is.columns)) (omega (arith, is.rows, to)))
      (λ u v there.
      let f = (Inside-spanning u v r.first_column first (end_column r) end).0 there in
      record { column = (f.0, f.1); row = (omega (arith, f.2, from), omega (arith, f.3, to)) })

  pub rows-between : first ≤ end → (r.first_row < end_row r → first < end) → rows_between r first end ≡ rows_at r first (end - first)
  rows-between before some = cases (some_or_empty r is)
    where
      same_fields : r.first_column ≡ origin → first ≡ origin → r.width ≡ 0 → end - first ≡ 0 → rows_at r first (end - first) ≡ empty
      same_fields c at w flat = rw (flat, c, at, w) refl

      cases : ((0 < r.width) × (0 < r.height)) ⊎ (r ≡ empty) → rows_between r first end ≡ rows_at r first (end - first)
      cases (inl (wide, high)) =
          let width : end_column r - r.first_column ≡ r.width = omega arith in
          spanning-some r.first_column first (end_column r) end (omega (arith, wide)) (some (omega (arith, high)))
          ∙ ap (λ (w : ℕ). let s : Rectangle = record { first_column = r.first_column; first_row = first; width = w; height = end - first } in s) width
      cases (inr none) =
          let c : r.first_column ≡ origin = ap (λ (r : Rectangle). r.first_column) none in
          let a : r.first_row ≡ origin = ap (λ (r : Rectangle). r.first_row) none in
          let w : r.width ≡ 0 = ap (λ (r : Rectangle). r.width) none in
          let h : r.height ≡ 0 = ap (λ (r : Rectangle). r.height) none in
          let at : first ≡ origin = omega (arith, from, before, to, a, h) in
          let flat : end - first ≡ 0 = omega (arith, from, before, to, h) in
          ap (λ (n : ℕ). rectangle r.first_column first (end_column r - r.first_column) n) flat
          ∙ rectangle-no_rows r.first_column first (end_column r - r.first_column)
          ∙ sym (same_fields c at w flat)

-- ---- how many tiles

products : (a b n c : ℕ) → a + b ≤ n → a * c + b * c ≤ n * c
products a b n c less = omega (arith, mul-le (a + b) c n c less (omega arith))

-- Where the row is the first of a row of tiles, no tile is in both parts.
pub tiles-cut : (r : Rectangle) (row : ℕ) → IsCut r row → row ≡ 64 * (row / 64) → tile_count (top r row) + tile_count (bottom r row) ≤ tile_count r
tiles-cut r row cut edge =
    let first : tile_lines (top r row) ≡ row / 64 - r.first_row / 64 = omega (arith, cut.first, edge) in
    let second : tile_lines (bottom r row) ≡ (end_row r + 63) / 64 - row / 64 = omega (arith, cut.last) in
    let whole : tile_lines r ≡ (end_row r + 63) / 64 - r.first_row / 64 = omega arith in
    let lines : tile_lines (top r row) + tile_lines (bottom r row) ≤ tile_lines r = omega (arith, first, second, whole, cut.first, cut.last) in
    let sum = products (tile_lines (top r row)) (tile_lines (bottom r row)) (tile_lines r) (tile_columns r) lines in
    omega (arith, length-tiles (top r row), length-tiles (bottom r row), length-tiles r, sum)
