use Rattle.std.proofs.Common.{take}
use Rattle.std.specs.List.{AllByRecursion}
use Rattle.strip_renders.specs.Batches.{IsInRow}
use Rattle.strip_renders.proofs.batch.row_of.Given as goal

abbrev pub invariant-loop-entry : goal.invariant-loop-entry
invariant-loop-entry l = AllByRecursion (IsInRow l.node l.row) (take l.entry-index l.need)
