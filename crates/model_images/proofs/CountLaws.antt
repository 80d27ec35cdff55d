-- How many tiles parts and levels have.
use Rattle.std.proofs.Common.{◌≡◌, ℕ, zero, suc, ◌+◌, ◌-◌, ◌≤◌, true, inl, inr, sym, subst, arith}
use Rattle.std.proofs.lemmas.Bool.Decides.{nat_tests}
use Rattle.std.proofs.lemmas.Nat.{mul-le}
use Rattle.plane_rect.specs.Rectangle.{Rectangle, Includes, IsRectangle, empty, end_column, end_row, halved, has_positions}
use Rattle.plane_rect.specs.Tile.{tile_columns, tile_end, tile_lines, tile_of}
use Rattle.plane_rect.proofs.Differences.{reaches}
use Rattle.plane_rect.proofs.Moved.{halved-positions}
use Rattle.plane_rect.proofs.RectangleLaws.{IsRectangle-halved}
use Rattle.plane_rect.proofs.Rectangles.{some_or_empty}
use Rattle.plane_rect.proofs.TileLists.{length-tiles}
use Rattle.model_images.specs.Level.{level_box}
use Rattle.model_images.specs.TileCounts.{level_tiles, tile_count}

-- along one side
fewer-along : (first end from to : ℕ) → first ≤ from → to ≤ end → tile_end to - tile_of from ≤ tile_end end - tile_of first
fewer-along first end from to low high = omega (arith, low, high)

pub fewer-tiles : (r part : Rectangle) → IsRectangle part → Includes r part → tile_count part ≤ tile_count r
fewer-tiles r part is inside = elim (some_or_empty part is) [
  | inl some ↦
      let positions : has_positions part ≡ true = grind (arith, nat_tests, some) in
      let far = reaches r part positions inside in
      let columns : tile_columns part ≤ tile_columns r = fewer-along r.first_column (end_column r) part.first_column (end_column part) (omega (arith, far)) (omega (arith, far)) in
      let rows : tile_lines part ≤ tile_lines r = fewer-along r.first_row (end_row r) part.first_row (end_row part) (omega (arith, far)) (omega (arith, far)) in
      let fewer = mul-le (tile_lines part) (tile_columns part) (tile_lines r) (tile_columns r) rows columns in
      omega (arith, fewer, length-tiles part, length-tiles r)
  | inr none ↦ subst (λ (p : Rectangle). tile_count p ≤ tile_count r) (sym none) (omega (arith, length-tiles empty))
]

Includes-halved : (r part : Rectangle) → IsRectangle r → IsRectangle part → Includes r part → Includes (halved r) (halved part)
Includes-halved r part is is_part inside u v h =
    let there = (halved-positions u v part is_part).0 h in
    (halved-positions u v r is).1 (there.0, there.1, inside there.0 there.1 there.2, there.3, there.4)

IsRectangle-level_box : (r : Rectangle) (z : ℕ) → IsRectangle r → IsRectangle (level_box r z)
IsRectangle-level_box r zero is = is
IsRectangle-level_box r (suc z) is = IsRectangle-halved (level_box r z) (IsRectangle-level_box r z is)

Includes-level_box : (r part : Rectangle) (z : ℕ) → IsRectangle r → IsRectangle part → Includes r part → Includes (level_box r z) (level_box part z)
Includes-level_box r part zero is is_part inside = inside
Includes-level_box r part (suc z) is is_part inside =
    Includes-halved (level_box r z) (level_box part z) (IsRectangle-level_box r z is) (IsRectangle-level_box part z is_part) (Includes-level_box r part z is is_part inside)

pub fewer-level_tiles : (r part : Rectangle) (z : ℕ) → IsRectangle r → IsRectangle part → Includes r part → level_tiles part z ≤ level_tiles r z
fewer-level_tiles r part zero is is_part inside = omega arith
fewer-level_tiles r part (suc z) is is_part inside =
    let before = fewer-level_tiles r part z is is_part inside in
    let here = fewer-tiles (level_box r (suc z)) (level_box part (suc z)) (IsRectangle-level_box part (suc z) is_part) (Includes-level_box r part (suc z) is is_part inside) in
    omega (arith, before, here)

pub lower-level_tiles : (r : Rectangle) (z more : ℕ) → level_tiles r z ≤ level_tiles r (z + more)
lower-level_tiles r z zero = let same : z + zero ≡ z = omega arith in subst (λ n. level_tiles r z ≤ level_tiles r n) (sym same) (omega arith)
lower-level_tiles r z (suc more) =
    let before = lower-level_tiles r z more in
    let next : z + suc more ≡ suc (z + more) = omega arith in
    subst (λ n. level_tiles r z ≤ level_tiles r n) (sym next) (omega (arith, before))
