use Rattle.std.proofs.Common.{◌+◌, ◌*◌}
use Rattle.pixel_formats.specs.Sample.{sample_at}
use Rattle.area_kernels.specs.Sequences.{sum_of}
use Rattle.area_kernels.proofs.SumLaws.{ChangedBelow}
use Rattle.area_kernels.proofs.columns.sum_rows.Given as goal

abbrev pub invariant-loop-block : goal.invariant-loop-block
invariant-loop-block g l =
    ChangedBelow (λ i _. sum_of l.side (λ row. sample_at g.L.Lanes.depth l.samples (row * l.stride + i))) (16 * l.block) (λ _. 0) (g.C.ColumnSums.sum l.columns)
