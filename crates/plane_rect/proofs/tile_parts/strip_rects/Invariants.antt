use Rattle.std.proofs.Common.{◌≡◌, ◌++◌, ◌-◌, ℕ, map}
use Rattle.std.specs.List.{range_with_len}
use Rattle.plane_rect.specs.Rectangle.{meet}
use Rattle.plane_rect.specs.Tile.{strip_rectangles, tile_line}
use Rattle.plane_rect.proofs.tile_parts.strip_rects.Given as goal

abbrev pub invariant-loop-row : goal.invariant-loop-row
invariant-loop-row l =
    l.rects.items ++ map (λ (row : ℕ). meet l.request (tile_line row)) (range_with_len l.row (l.end - l.row))
    ≡ strip_rectangles l.request
