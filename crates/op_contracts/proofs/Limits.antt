-- Parts of rectangles in limits.
use Rattle.std.proofs.Common.{◌+◌, ◌-◌, ◌≤◌, ◌==◌, ◌||◌, Bool, true, false, cond, inl, inr, min, max, sym, subst, arith}
use Rattle.std.proofs.lemmas.Nat.{mul-le}
use Rattle.plane_rect.specs.Rectangle.{InLimits, Includes, Inside, IsRectangle, Rectangle, empty, end_column, end_row, meet}
use Rattle.plane_rect.specs.Tile.{Tile, tile_square}
use Rattle.plane_rect.proofs.Rectangles.{some_or_empty}

limits-if : (b : Bool) (r : Rectangle) → InLimits r → InLimits (cond b empty r)
limits-if true r limits = (omega arith, omega arith, omega arith)
limits-if false r limits = limits

-- what a rectangle in limits has in common with another is in limits
pub InLimits-meet : (a b : Rectangle) → InLimits a → InLimits (meet a b)
InLimits-meet a b limits =
    let first_column = max a.first_column b.first_column in
    let first_row = max a.first_row b.first_row in
    let width = min (end_column a) (end_column b) - first_column in
    let height = min (end_row a) (end_row b) - first_row in
    let columns : width ≤ a.width = omega arith in
    let rows : height ≤ a.height = omega arith in
    let few = mul-le width height a.width a.height columns rows in
    limits-if (width == 0 || height == 0) (record { first_column = first_column; first_row = first_row; width = width; height = height })
    (omega (arith, limits.0), omega (arith, limits.1), omega (arith, few, limits.2))

-- a rectangle in one tile is in limits
pub InLimits-in_tile : (part : Rectangle) (tile : Tile) → IsRectangle part → Includes (tile_square tile) part → InLimits part
InLimits-in_tile part tile is inside = elim (some_or_empty part is) [
  | inl some ↦
      let first : Inside part.first_column part.first_row part = record { column = (omega arith, omega (arith, some.0)); row = (omega arith, omega (arith, some.1)) } in
      let last : Inside (part.first_column + part.width - 1) (part.first_row + part.height - 1) part =
      record { column = (omega (arith, some.0), omega (arith, some.0)); row = (omega (arith, some.1), omega (arith, some.1)) } in
      let start = inside part.first_column part.first_row first in
      let stop = inside (part.first_column + part.width - 1) (part.first_row + part.height - 1) last in
      let columns : part.width ≤ 64 = omega (arith, start.column, stop.column, some.0) in
      let rows : part.height ≤ 64 = omega (arith, start.row, stop.row, some.1) in
      let few = mul-le part.width part.height 64 64 columns rows in
      (omega (arith, columns), omega (arith, rows), omega (arith, few))
  | inr none ↦ subst InLimits (sym none) (omega arith, omega arith, omega arith)
]
