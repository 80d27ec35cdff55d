use Rattle.pixel_formats.specs.Sample.{max_sample_of}
use Rattle.area_kernels.proofs.SumLaws.{HoldsColumns-slid, sample-below}
use Rattle.area_kernels.proofs.columns.slide_rows.Goals as goal

pub returns : goal.returns
returns g c =
    let d = g.L.Lanes.depth in
    let sum = g.C.ColumnSums.sum in
    HoldsColumns-slid d c.args.stride c.args.side c.args.first g.C.ColumnSums.limit (max_sample_of d) c.args.samples.now (sum c.args.columns.now) (sum c.slide_row.new.columns)
    (sample-below d c.args.samples.now c.type_inv.samples) g.met.C.ColumnSums.room c.requires.few c.requires.columns c.slide_row.ensures
