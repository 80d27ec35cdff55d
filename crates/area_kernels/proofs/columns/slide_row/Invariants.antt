use Rattle.std.proofs.Common.{◌+◌, ◌*◌}
use Rattle.pixel_formats.specs.Sample.{sample_at}
use Rattle.area_kernels.proofs.SumLaws.{ChangedBelow, slid}
use Rattle.area_kernels.proofs.columns.slide_row.Given as goal

abbrev pub invariant-loop-block : goal.invariant-loop-block
invariant-loop-block g l =
    let s = sample_at g.L.Lanes.depth l.samples in
    ChangedBelow (λ i sum. slid g.C.ColumnSums.limit sum (s (l.coming + i)) (s (l.leaving + i))) (16 * l.block) (g.C.ColumnSums.sum l.fn.columns) (g.C.ColumnSums.sum l.columns)
