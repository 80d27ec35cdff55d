use Rattle.std.proofs.Common.{map}
use Rattle.op_contracts.proofs.HeldLines.{IsFilled}
use Rattle.op_contracts.proofs.held_bytes.line_tiles.Given as goal

abbrev pub invariant-loop-column : goal.invariant-loop-column
invariant-loop-column l = IsFilled l.fn.window l.fn.part l.fn.line l.column (map (λ tile. tile.now) l.tiles.items)
