use Rattle.std.proofs.Common.{◌+◌, ◌*◌, ◌≤◌, refl, arith}
use Rattle.std.proofs.Math.Nat.{mul-le-mul_left}
use Rattle.pixel_formats.specs.Sample.{max_sample_of}
use Rattle.area_kernels.proofs.CopiedSamples.{row_within}
use Rattle.area_kernels.proofs.SumLaws.{BlockSums-more, sample-below}
use Rattle.area_kernels.proofs.columns.sum_block.Goals as goal

pub loop-row-init : goal.loop-row-init
loop-row-init g c = record { here = c.requires.clear; before = λ i lt. refl; after = λ i le. refl }

pub load_at-requires : goal.load_at-requires
load_at-requires g c =
    let row = c.loop-row.row in
    let within : row * c.args.stride + c.args.at + 16 ≤ c.args.side * c.args.stride + 16 =
    omega (arith, row_within row c.args.side c.args.stride c.loop-row-test.true) in
    omega (arith, mul-le-mul_left g.L.Lanes.depth within, c.requires.samples)

pub loop-row-preserved : goal.loop-row-preserved
loop-row-preserved g c =
    let d = g.L.Lanes.depth in
    let row = c.loop-row.row in
    let sum = g.C.ColumnSums.sum in
    BlockSums-more d c.args.stride row (row + 1) c.args.at g.C.ColumnSums.limit (max_sample_of d) c.args.samples.now (g.L.Lanes.lane c.load_at.result)
    (sum c.args.columns.now) (sum c.loop-row.columns) (sum c.add.new.self) (sample-below d c.args.samples.now c.type_inv.samples) g.met.C.ColumnSums.room (omega arith) (omega arith)
    c.loop-row.invariant c.load_at.ensures c.add.ensures.here c.add.ensures.before c.add.ensures.after
