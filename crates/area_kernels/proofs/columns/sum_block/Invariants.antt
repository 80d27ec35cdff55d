use Rattle.area_kernels.proofs.SumLaws.{BlockSums}
use Rattle.area_kernels.proofs.columns.sum_block.Given as goal

abbrev pub invariant-loop-row : goal.invariant-loop-row
invariant-loop-row g l = BlockSums g.L.Lanes.depth l.stride l.row l.at l.samples (g.C.ColumnSums.sum l.fn.columns) (g.C.ColumnSums.sum l.columns)
