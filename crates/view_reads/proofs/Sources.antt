-- Positions that are averaged for tiles of levels.
use Rattle.std.proofs.Common.{◌≡◌, ℕ, zero, suc, ◌+◌, ◌-◌, ◌*◌, ◌<◌, ◌≤◌, ◌↔◌, max, min, refl, sym, ap, subst, ◌∙◌, arith}
use Rattle.std.proofs.lemmas.Nat.{mul-le}
use Rattle.plane_rect.specs.Rectangle.{InLimits, Inside, IsRectangle, Rectangle, area, end_column, end_row, half, halved, origin, plane_side, spanning}
use Rattle.plane_rect.specs.Tile.{Tile, plane, tile_at, tile_rectangle, tile_square}
use Rattle.plane_rect.proofs.RectangleLaws.{IsRectangle-spanning}
use Rattle.plane_rect.proofs.Rectangles.{Inside-spanning}
use Rattle.model_images.specs.Level.{level_box, source_of_level, tile_above, tile_at_level}
use Rattle.model_images.proofs.AgreeingLevels.{Inside-source_of_tile}
use Rattle.level_tables.proofs.Counting.{above_half}
use Rattle.view_reads.proofs.Cuts.{limits-part}

-- the next level's box
pub box-next : (box : Rectangle) (z : ℕ) → halved (level_box box z) ≡ level_box box (z + 1)
box-next box z = let next : suc z ≡ z + 1 = omega arith in ap (level_box box) next

-- the plane's position whose half is in a rectangle
abbrev pub twice : ℕ → ℕ
twice n = min (2 * n - origin) plane_side

twice-from : (first end u : ℕ) → end ≤ plane_side → twice first ≤ u → u < twice end → (u < plane_side) × (first ≤ half u) × (half u < end)
twice-from first end u few low high = (omega (arith, high), omega (arith, low, high), omega (arith, high))

twice-to : (first end u : ℕ) → u < plane_side → first ≤ half u → half u < end → (twice first ≤ u) × (u < twice end)
twice-to first end u there low high = (omega (arith, there, low), omega (arith, there, high))

pub below-positions : (u v : ℕ) (r : Rectangle) → end_column r ≤ plane_side → end_row r ≤ plane_side
    → Inside u v (spanning (twice r.first_column) (twice r.first_row) (twice (end_column r)) (twice (end_row r)))
    ↔ (Inside u v plane × Inside (half u) (half v) r)
below-positions u v r columns rows =
    let spans = Inside-spanning u v (twice r.first_column) (twice r.first_row) (twice (end_column r)) (twice (end_row r)) in (
      λ h.
          let there = spans.0 h in
          let column = twice-from r.first_column (end_column r) u columns there.0 there.1 in
          let row = twice-from r.first_row (end_row r) v rows there.2 there.3 in (
            record { column = (omega arith, omega (arith, column.0)); row = (omega arith, omega (arith, row.0)) },
            record { column = (column.1, column.2); row = (row.1, row.2) },
          ),
      λ h.
          let column = twice-to r.first_column (end_column r) u (omega (arith, h.0.column)) h.1.column.0 h.1.column.1 in
          let row = twice-to r.first_row (end_row r) v (omega (arith, h.0.row)) h.1.row.0 h.1.row.1 in
          spans.1 (column.0, column.1, row.0, row.1),
    )

-- ---- level after level

abbrev pub IsSource : ℕ → Tile → Rectangle → Type 0
IsSource z t r = (u v : ℕ) → Inside u v r ↔ (Inside u v plane × (tile_at_level (tile_at u v) z ≡ t))

above-level : (t : Tile) (z : ℕ) → tile_at_level (tile_above t) z ≡ tile_above (tile_at_level t z)
above-level t zero = refl
above-level t (suc z) = ap tile_above (above-level t z)

-- the halves of a position are in the tile of a level exactly where it is in that of the next
half-level : (u v z : ℕ) → tile_at_level (tile_at (half u) (half v)) z ≡ tile_at_level (tile_at u v) (suc z)
half-level u v z = ap (λ (t : Tile). tile_at_level t z) (sym (above_half u v)) ∙ above-level (tile_at u v) z

half-plane : (u v : ℕ) → Inside u v plane → Inside (half u) (half v) plane
half-plane u v there = record { column = (omega arith, omega (arith, there.column)); row = (omega arith, omega (arith, there.row)) }

source-suc : (z : ℕ) (t : Tile) (source new : Rectangle) → IsSource z t source → ((u v : ℕ) → Inside u v new ↔ (Inside u v plane × Inside (half u) (half v) source))
    → IsSource (suc z) t new
source-suc z t source new before below u v = (
  λ h.
      let both = (below u v).0 h in
      (both.0, sym (half-level u v z) ∙ ((before (half u) (half v)).0 both.1).1),
  λ h. (below u v).1 (h.0, (before (half u) (half v)).1 (half-plane u v h.0, half-level u v z ∙ h.1)),
)

pub source-next : (z : ℕ) (t : Tile) (source new : Rectangle) → IsSource z t source → ((u v : ℕ) → Inside u v new ↔ (Inside u v plane × Inside (half u) (half v) source))
    → IsSource (z + 1) t new
source-next z t source new before below =
    let next : suc z ≡ z + 1 = omega arith in
    subst (λ n. IsSource n t new) next (source-suc z t source new before below)

pub source-first : (t : Tile) (r : Rectangle) → ((u v : ℕ) → Inside u v r ↔ (Inside u v plane × (t ≡ tile_at u v))) → IsSource 0 t r
source-first t r is u v = (
  λ h. let both = (is u v).0 h in (both.0, sym both.1),
  λ h. (is u v).1 (h.0, sym h.1),
)

-- ---- rectangles

pub tile-rectangle : (t : Tile) → IsRectangle (tile_rectangle t)
tile-rectangle t =
    let square = tile_square t in
    IsRectangle-spanning (max square.first_column 0) (max square.first_row 0) (min (end_column square) (end_column plane)) (min (end_row square) (end_row plane))
    (omega arith) (omega arith)

-- what is averaged for a tile of the next level is in limits
pub source-limits : (t : Tile) (r : Rectangle) → IsRectangle r → IsSource 1 t r → InLimits r
source-limits t r is source =
    let square = source_of_level (tile_square t) 1 in
    let wide : square.width ≤ 128 = omega arith in
    let high : square.height ≤ 128 = omega arith in
    let few : area square ≤ 128 * 128 = mul-le square.width square.height 128 128 wide high in
    limits-part square r is (λ u v there. (Inside-source_of_tile u v t 1).1 ((source u v).0 there).1)
    (omega (arith, wide), omega (arith, high), omega (arith, few))
