use Rattle.std.proofs.Common.{◌+◌, ◌*◌, arith}
use Rattle.pixel_formats.specs.Sample.{sample_at}
use Rattle.area_kernels.proofs.SumLaws.{ChangedBelow-more, ChangedBelow-none, slid, slid_here}
use Rattle.area_kernels.proofs.columns.slide_row.Goals as goal

pub loop-block-init : goal.loop-block-init
loop-block-init g c =
    let s = sample_at g.L.Lanes.depth c.args.samples.now in
    ChangedBelow-none (λ i sum. slid g.C.ColumnSums.limit sum (s (c.args.coming + i)) (s (c.args.leaving + i))) (g.C.ColumnSums.sum c.args.columns.now)

pub loop-block-preserved : goal.loop-block-preserved
loop-block-preserved g c =
    let s = sample_at g.L.Lanes.depth c.args.samples.now in
    let sum = g.C.ColumnSums.sum in
    let limit = g.C.ColumnSums.limit in
    let lane = g.L.Lanes.lane in
    let first = c.args.coming in
    let last = c.args.leaving in
    let at = 16 * c.loop-block.block in
    ChangedBelow-more (λ i n. slid limit n (s (first + i)) (s (last + i))) at (16 * (c.loop-block.block + 1)) (sum c.args.columns.now) (sum c.loop-block.columns) (sum c.slide.new.self) (omega arith) c.loop-block.invariant
    (slid_here limit s (lane c.load_at-added.result) (lane c.load_at-taken.result) first last at (sum c.loop-block.columns) (sum c.slide.new.self) c.load_at-added.ensures c.load_at-taken.ensures c.slide.ensures.here)
    c.slide.ensures.before c.slide.ensures.after

pub returns : goal.returns
returns g c i lt = c.loop-block.invariant.changed i (omega arith)
