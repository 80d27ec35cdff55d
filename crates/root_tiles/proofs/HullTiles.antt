-- The hull of tiles that meet a box has at most as many tiles of levels as the box.
use Rattle.std.proofs.Common.{◌≡◌, ℕ, zero, suc, ◌+◌, ◌-◌, ◌*◌, ◌/◌, ◌^◌, ◌<◌, ◌≤◌, inl, inr, List, Contains, refl, sym, ap, subst, ◌∙◌, arith}
use Rattle.std.proofs.lemmas.Bool.{cases_lt}
use Rattle.std.proofs.lemmas.Nat.{mul-le}
use Rattle.plane_rect.specs.Rectangle.{Includes, Inside, IsRectangle, Rectangle, empty, end_column, end_row, half}
use Rattle.plane_rect.specs.Tile.{Meets, Tile, plane, tile_at, tile_columns, tile_end, tile_lines, tile_of, tile_rectangle, tile_square}
use Rattle.plane_rect.proofs.Moved.{halved-positions}
use Rattle.plane_rect.proofs.Rectangles.{Inside-meet, some_or_empty}
use Rattle.plane_rect.proofs.TileLists.{length-tiles}
use Rattle.model_images.specs.Level.{level_box, tile_above, tile_at_level}
use Rattle.model_images.specs.TileCounts.{level_tiles, tile_count}
use Rattle.model_images.specs.Tiles.{hull_of_tiles}
use Rattle.model_images.proofs.PutTiles.{hull-is, hull-smallest}
use Rattle.level_tables.proofs.Counting.{above_half, box-is}

-- ---- tiles of levels by the positions that are averaged for them

pub met-source : (r : Rectangle) (z : ℕ) (t : Tile) → IsRectangle r → Meets t (level_box r z)
    → (u : ℕ) × (v : ℕ) × Inside u v r × (tile_at_level (tile_at u v) z ≡ t)
met-source r zero t is meets = (meets.0, meets.1, meets.2, sym meets.3)
met-source r (suc z) t is meets =
    let below = (halved-positions meets.0 meets.1 (level_box r z) (box-is r z is)).0 meets.2 in
    let source = met-source r z (tile_at below.0 below.1) is (below.0, below.1, below.2, refl) in
    let joined : (of : ℕ → ℕ → Tile) → of (half below.0) (half below.1) ≡ of meets.0 meets.1 = λ of. cc (below.3, below.4) in (
      source.0,
      source.1,
      source.2,
      ap tile_above source.3 ∙ above_half below.0 below.1 ∙ joined tile_at ∙ sym meets.3,
    )

pub source-meets : (r : Rectangle) (z u v : ℕ) → IsRectangle r → Inside u v r → Meets (tile_at_level (tile_at u v) z) (level_box r z)
source-meets r zero u v is there = (u, v, there, refl)
source-meets r (suc z) u v is there =
    let before = source-meets r z u v is there in (
      half before.0,
      half before.1,
      (halved-positions (half before.0) (half before.1) (level_box r z) (box-is r z is)).1 (before.0, before.1, before.2, refl, refl),
      ap tile_above before.3 ∙ above_half before.0 before.1,
    )

-- ---- how many tiles meet rectangles

met-along : (first end from to u w : ℕ) → from < to → first ≤ u → u < end → tile_of from ≡ tile_of u → first ≤ w → w < end → tile_of (to - 1) ≡ tile_of w
    → tile_end to - tile_of from ≤ tile_end end - tile_of first
met-along first end from to u w some low_u high_u is_u low_w high_w is_w = omega (arith, some, low_u, high_u, is_u, low_w, high_w, is_w)

fewer-met : (r s : Rectangle) → IsRectangle r → ((t : Tile) → Meets t r → Meets t s) → tile_count r ≤ tile_count s
fewer-met r s is all = elim (some_or_empty r is) [
  | inl some ↦
      let last_column = r.first_column + r.width - 1 in
      let last_row = r.first_row + r.height - 1 in
      let first = all (tile_at r.first_column r.first_row)
      (r.first_column, r.first_row, record { column = (omega arith, omega (arith, some)); row = (omega arith, omega (arith, some)) }, refl) in
      let last = all (tile_at last_column last_row)
      (last_column, last_row, record { column = (omega (arith, some), omega (arith, some)); row = (omega (arith, some), omega (arith, some)) }, refl) in
      let columns : tile_columns r ≤ tile_columns s =
      met-along s.first_column (end_column s) r.first_column (end_column r) first.0 last.0 (omega (arith, some)) first.2.column.0 first.2.column.1
      (ap (λ (t : Tile). t.column) first.3) last.2.column.0 last.2.column.1 (ap (λ (t : Tile). t.column) last.3) in
      let rows : tile_lines r ≤ tile_lines s =
      met-along s.first_row (end_row s) r.first_row (end_row r) first.1 last.1 (omega (arith, some)) first.2.row.0 first.2.row.1
      (ap (λ (t : Tile). t.row) first.3) last.2.row.0 last.2.row.1 (ap (λ (t : Tile). t.row) last.3) in
      let fewer = mul-le (tile_lines r) (tile_columns r) (tile_lines s) (tile_columns s) rows columns in
      omega (arith, fewer, length-tiles r, length-tiles s)
  | inr none ↦ subst (λ (p : Rectangle). tile_count p ≤ tile_count s) (sym none) (omega (arith, length-tiles empty))
]

pub fewer-levels : (r s : Rectangle) (z : ℕ) → IsRectangle r → IsRectangle s → ((u v : ℕ) → Inside u v r → Meets (tile_at u v) s) → level_tiles r z ≤ level_tiles s z
fewer-levels r s zero is_r is_s all = omega arith
fewer-levels r s (suc z) is_r is_s all =
    let before = fewer-levels r s z is_r is_s all in
    let here : tile_count (level_box r (suc z)) ≤ tile_count (level_box s (suc z)) =
    fewer-met (level_box r (suc z)) (level_box s (suc z)) (box-is r (suc z) is_r) (λ t meets. met t meets) in
    omega (arith, before, here)
  where
    met : (t : Tile) → Meets t (level_box r (suc z)) → Meets t (level_box s (suc z))
    met t meets =
        let source = met-source r (suc z) t is_r meets in
        let other = all source.0 source.1 source.2 in
        let same : tile_at_level (tile_at other.0 other.1) (suc z) ≡ t = ap (λ (tile : Tile). tile_at_level tile (suc z)) (sym other.3) ∙ source.3 in
        subst (λ (tile : Tile). Meets tile (level_box s (suc z))) same (source-meets s (suc z) other.0 other.1 is_s other.2)

-- ---- the hull

-- the positions of all tiles that meet a box
around : Rectangle → Rectangle
around box = record {
  first_column = 64 * tile_of box.first_column;
  first_row = 64 * tile_of box.first_row;
  width = 64 * tile_columns box;
  height = 64 * tile_lines box;
}

-- a tile that meets a box is among these
around-tile : (box : Rectangle) (tile : Tile) → Meets tile box → Includes (around box) (tile_rectangle tile)
unfolding around
around-tile box tile meets p q there =
    let square = ((Inside-meet p q (tile_square tile) plane).0 there).0 in
    let column : tile.column ≡ meets.0 / 64 = ap (λ (t : Tile). t.column) meets.3 in
    let row : tile.row ≡ meets.1 / 64 = ap (λ (t : Tile). t.row) meets.3 in
    record {
      column = (omega (arith, square.column, column, meets.2.column), omega (arith, square.column, column, meets.2.column));
      row = (omega (arith, square.row, row, meets.2.row), omega (arith, square.row, row, meets.2.row));
    }

along : (first end u : ℕ) → first < end → 64 * tile_of first ≤ u → u < 64 * tile_of first + 64 * (tile_end end - tile_of first)
    → (w : ℕ) × (first ≤ w) × (w < end) × (tile_of u ≡ tile_of w)
along first end u some low high = elim (cases_lt (tile_of first) (tile_of u)) [
  | inl less ↦ (64 * tile_of u, omega (arith, less), omega (arith, high, some), omega arith)
  | inr same ↦ (first, omega arith, some, omega (arith, same, low))
]

-- a position among these is in a tile that meets the box
around-met : (box : Rectangle) → IsRectangle box → (u v : ℕ) → Inside u v (around box) → Meets (tile_at u v) box
unfolding around
around-met box is u v there = elim (some_or_empty box is) [
  | inl some ↦
      let column = along box.first_column (end_column box) u (omega (arith, some)) there.column.0 there.column.1 in
      let row = along box.first_row (end_row box) v (omega (arith, some)) there.row.0 there.row.1 in
      let joined : (of : ℕ → ℕ → Tile) → of (tile_of u) (tile_of v) ≡ of (tile_of column.0) (tile_of row.0) = λ of. cc (column.3, row.3) in
      (column.0, row.0, record { column = (column.1, column.2); row = (row.1, row.2) }, joined (λ column row. record { column = column; row = row }))
  | inr none ↦
      let wide : box.width ≡ 0 = ap (λ (r : Rectangle). r.width) none in
      let first : box.first_column ≡ 2 ^ 24 = ap (λ (r : Rectangle). r.first_column) none in
      absurd (omega (arith, there.column, wide, first))
]

pub hull-levels : (box : Rectangle) (put : List Tile) (z : ℕ) → IsRectangle box → ((tile : Tile) → Contains put tile → Meets tile box)
    → level_tiles (hull_of_tiles put) z ≤ level_tiles box z
hull-levels box put z is meets =
    fewer-levels (hull_of_tiles put) box z (hull-is put) is
    (λ u v there. around-met box is u v (hull-smallest put (around box) (λ tile among. around-tile box tile (meets tile among)) u v there))
