use Rattle.plane_rect.specs.Rectangle.{offset}
use Rattle.model_graphs.specs.Windows.{window_image}
use Rattle.patch_abyss.specs.Lines.{HasFirstPixels}
use Rattle.patch_abyss.proofs.LineRows.{reached_row}
use Rattle.op_contracts.proofs.held_bytes.held_bytes.Given as goal

abbrev pub invariant-loop-line : goal.invariant-loop-line
invariant-loop-line l =
    HasFirstPixels (window_image l.fn.window) l.fn.part (offset l.fn.part l.fn.part.first_column (reached_row l.fn.part l.line)) l.bytes.items
