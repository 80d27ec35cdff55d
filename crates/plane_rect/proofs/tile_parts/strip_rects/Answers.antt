use Rattle.std.proofs.Common.{ℕ}
use Rattle.plane_rect.specs.Rectangle.{meet}
use Rattle.plane_rect.specs.Tile.{tile_line}
use Rattle.plane_rect.proofs.Rows.{rows_more}
use Rattle.plane_rect.proofs.tile_parts.strip_rects.Goals as goal

pub loop-row-preserved : goal.loop-row-preserved
loop-row-preserved c =
    rows_more (λ (row : ℕ). meet c.args.request.now (tile_line row)) c.loop-row.rects.items c.push.new.self.items
    c.loop-row.row c.div_ceil-end.result c.meet.result
    c.loop-row-test.true
    (rw c.tile_line.ensures at c.meet.ensures.value)
    c.in_ok-push.ensures.items
    c.loop-row.invariant
