-- The tiles that meet a rectangle, and the tile of a position.
use Rattle.std.proofs.Common.{◌≡◌, ℕ, zero, suc, ◌+◌, ◌-◌, ◌*◌, ◌^◌, length, length-append, ◌<◌, ◌≤◌, ◌↔◌, inl, inr, nat_lt, true, false, max, refl, ap, sym, subst, arith, All, AllPairs, Contains}
use Rattle.std.proofs.lemmas.Bool.{cases_lt, lt-ltb, le-ltb}
use Rattle.std.proofs.lemmas.List.Elements.{Contains-append_left, Contains-append_right, Contains-append_cases}
use Rattle.std.proofs.lemmas.List.Kept.{AllPairs-cons}
use Rattle.std.proofs.lemmas.Nat.{mul-le}
use Rattle.plane_rect.specs.Rectangle.{Rectangle, Inside, Within, IsRectangle}
use Rattle.plane_rect.specs.Tile.{Tile, IsBefore, IsWhole, Meets, tile_at, tile_of, tile_end, tile_columns, tile_lines, tile_row, tile_rows, tile_square, tiles, tiles_left}
use Rattle.plane_rect.proofs.Lists.{All-from_contains, AllPairs-nil, AllPairs-append, Contains-cases, Contains-first, Contains-later}
use Rattle.plane_rect.proofs.Rectangles.{some_or_empty}

-- a tile with these numbers
tile-named : (column row : ℕ) (t : Tile) → t.column ≡ column → t.row ≡ row → ◌≡◌ {A = Tile} t (record { column = column; row = row })
tile-named column row t p q =
    let joined : (of : ℕ → ℕ → Tile) → of t.column t.row ≡ of column row = λ of. cc in
    joined (λ column row. record { column = column; row = row })

-- ---- which tiles are in the lists

in_tile_row : (row column n : ℕ) (t : Tile) → Contains (tile_row row column n) t
    → (t.row ≡ row) × (column ≤ t.column) × (t.column < column + n)
in_tile_row row column zero t h = absurd (omega (arith, h.1))
in_tile_row row column (suc n) t h = elim (Contains-cases (record { column = column; row = row }) (tile_row row (suc column) n) t h) [
  | inl e ↦
      let at_row : row ≡ t.row = ap (λ (t : Tile). t.row) e in
      let at_column : column ≡ t.column = ap (λ (t : Tile). t.column) e in
      (sym at_row, omega arith, omega arith)
  | inr g ↦ let s = in_tile_row row (suc column) n t g in (s.0, omega (arith, s), omega (arith, s))
]

tile_row-has : (row column n : ℕ) (t : Tile) → t.row ≡ row → column ≤ t.column → t.column < column + n
    → Contains (tile_row row column n) t
tile_row-has row column zero t e p q = absurd (omega arith)
tile_row-has row column (suc n) t e p q = elim (cases_lt column t.column) [
  | inl later ↦ Contains-later (record { column = column; row = row }) (tile_row row (suc column) n) t (tile_row-has row (suc column) n t e (omega arith) (omega arith))
  | inr here ↦ Contains-first (record { column = column; row = row }) (tile_row row (suc column) n) t (sym (tile-named column row t (omega arith) e))
]

in_tile_rows : (column columns row n : ℕ) (t : Tile) → Contains (tile_rows column columns row n) t
    → (column ≤ t.column) × (t.column < column + columns) × (row ≤ t.row) × (t.row < row + n)
in_tile_rows column columns row zero t h = absurd (omega (arith, h.1))
in_tile_rows column columns row (suc n) t h = elim (Contains-append_cases (tile_row row column columns) (tile_rows column columns (suc row) n) t h) [
  | inl g ↦ let s = in_tile_row row column columns t g in (s.1, s.2, omega (arith, s), omega (arith, s))
  | inr g ↦ let s = in_tile_rows column columns (suc row) n t g in (s.0, s.1, omega (arith, s), omega (arith, s))
]

tile_rows-has : (column columns row n : ℕ) (t : Tile) → column ≤ t.column → t.column < column + columns → row ≤ t.row → t.row < row + n
    → Contains (tile_rows column columns row n) t
tile_rows-has column columns row zero t a b p q = absurd (omega arith)
tile_rows-has column columns row (suc n) t a b p q = elim (cases_lt row t.row) [
  | inl later ↦ Contains-append_right (tile_row row column columns) (tile_rows column columns (suc row) n) t (tile_rows-has column columns (suc row) n t a b (omega arith) (omega arith))
  | inr here ↦ Contains-append_left (tile_row row column columns) (tile_rows column columns (suc row) n) t (tile_row-has row column columns t (omega arith) a b)
]

-- along one side: the tiles of some numbers in a row
tile-within : (start len n : ℕ) → 0 < len
    → ((tile_of start ≤ n) × (n < tile_end (start + len))) ↔ ((m : ℕ) × Within start len m × (n ≡ tile_of m))
tile-within start len n some = (λ h. (max start (64 * n), (omega arith, omega arith), omega arith), λ h. (omega (arith, h.1, h.2), omega (arith, h.1, h.2)))

pub tiles-meeting : (r : Rectangle) → IsRectangle r → (t : Tile) → Contains (tiles r) t ↔ Meets t r
tiles-meeting r is t = elim (some_or_empty r is) [
  | inl some ↦
      let columns = tile-within r.first_column r.width t.column some.0 in
      let rows = tile-within r.first_row r.height t.row some.1 in (
        λ h. let s = in_tile_rows (tile_of r.first_column) (tile_columns r) (tile_of r.first_row) (tile_lines r) t h in
            let x = columns.0 (s.0, omega (arith, s.0, s.1)) in
            let y = rows.0 (s.2, omega (arith, s.2, s.3)) in
            (x.0, y.0, record { column = x.1; row = y.1 }, tile-named (tile_of x.0) (tile_of y.0) t x.2 y.2),
        λ h. let x = columns.1 (h.0, h.2.column, ap (λ (t : Tile). t.column) h.3) in
            let y = rows.1 (h.1, h.2.row, ap (λ (t : Tile). t.row) h.3) in
            tile_rows-has (tile_of r.first_column) (tile_columns r) (tile_of r.first_row) (tile_lines r) t
            x.0 (omega (arith, x.0, x.1)) y.0 (omega (arith, y.0, y.1)),
      )
  | inr none ↦
      subst (λ (r : Rectangle). Contains (tiles r) t ↔ Meets t r) (sym none)
      (λ h. absurd (omega (arith, h.1)), λ h. absurd (omega (arith, h.2.column)))
]

-- ---- their order

tile_row-in_order : (row column n : ℕ) → AllPairs IsBefore (tile_row row column n)
tile_row-in_order row column zero = AllPairs-nil IsBefore
tile_row-in_order row column (suc n) =
    let first : Tile = record { column = column; row = row } in
    AllPairs-cons IsBefore first (tile_row row (suc column) n)
    (All-from_contains (IsBefore first) (tile_row row (suc column) n) (λ t h. let s = in_tile_row row (suc column) n t h in inr (sym s.0, omega (arith, s.1))))
    (tile_row-in_order row (suc column) n)

tile_rows-in_order : (column columns row n : ℕ) → AllPairs IsBefore (tile_rows column columns row n)
tile_rows-in_order column columns row zero = AllPairs-nil IsBefore
tile_rows-in_order column columns row (suc n) =
    AllPairs-append IsBefore (tile_row row column columns) (tile_rows column columns (suc row) n)
    (tile_row-in_order row column columns)
    (tile_rows-in_order column columns (suc row) n)
    (λ s t p q. let a = in_tile_row row column columns s p in let b = in_tile_rows column columns (suc row) n t q in inl (omega (arith, a.0, b.2)))

pub tiles-in_order : (r : Rectangle) → AllPairs IsBefore (tiles r)
tiles-in_order r =
    tile_rows-in_order (tile_of r.first_column) (tile_columns r) (tile_of r.first_row) (tile_lines r)

-- ---- the list of an iterator that has given none

pub tiles_left-all : (first end row end_tile_row : ℕ)
    → tiles_left first end first row end_tile_row ≡ tile_rows first (end - first) row (end_tile_row - row)
tiles_left-all first end row end_tile_row = elim (cases_lt row end_tile_row) [
  | inl more ↦
      let test : nat_lt row end_tile_row ≡ true = lt-ltb row end_tile_row more in
      let rows : end_tile_row - row ≡ suc (end_tile_row - suc row) = omega arith in
      rw (test, rows) refl
  | inr none ↦
      let test : nat_lt row end_tile_row ≡ false = le-ltb row end_tile_row none in
      let rows : end_tile_row - row ≡ 0 = omega arith in
      rw (test, rows) refl
]

-- a tile that meets a rectangle of the plane begins in the plane
pub tiles-whole : (r : Rectangle) → IsRectangle r → All IsWhole (tiles r)
tiles-whole r is = All-from_contains IsWhole (tiles r)
    (λ t h. let m = (tiles-meeting r is t).0 h in
    let column : t.column ≡ tile_of m.0 = ap (λ (t : Tile). t.column) m.3 in
    let row : t.row ≡ tile_of m.1 = ap (λ (t : Tile). t.row) m.3 in
    (omega (arith, m.2, is), omega (arith, m.2, is)))

-- ---- how many they are

length-tile_row : (row column n : ℕ) → length (tile_row row column n) ≡ n
length-tile_row row column zero = refl
length-tile_row row column (suc n) = ap suc (length-tile_row row (suc column) n)

length-tile_rows : (column columns row n : ℕ) → length (tile_rows column columns row n) ≡ n * columns
length-tile_rows column columns row zero = omega arith
length-tile_rows column columns row (suc n) =
    omega (arith, length-append (tile_row row column columns) (tile_rows column columns (suc row) n), length-tile_row row column columns, length-tile_rows column columns (suc row) n)

pub length-tiles : (r : Rectangle) → length (tiles r) ≡ tile_lines r * tile_columns r
length-tiles r = length-tile_rows (tile_of r.first_column) (tile_columns r) (tile_of r.first_row) (tile_lines r)

pub tiles-few : (r : Rectangle) → IsRectangle r → length (tiles r) ≤ 2 ^ 38
tiles-few r is =
    let few = mul-le (tile_lines r) (tile_columns r) (2 ^ 19) (2 ^ 19) (omega (arith, is.rows)) (omega (arith, is.columns)) in
    omega (arith, few, length-tiles r)

-- ---- the tile of a position

-- each position is in one tile, and in no other
pub Inside-tile_square : (u v : ℕ) (t : Tile) → Inside u v (tile_square t) ↔ (t ≡ tile_at u v)
Inside-tile_square u v t = (
  λ h. tile-named (tile_of u) (tile_of v) t (omega (arith, h.column)) (omega (arith, h.row)),
  λ e. let column : t.column ≡ tile_of u = ap (λ (t : Tile). t.column) e in
      let row : t.row ≡ tile_of v = ap (λ (t : Tile). t.row) e in
      record { column = (omega arith, omega arith); row = (omega arith, omega arith) },
)
