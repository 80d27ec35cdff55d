use Rattle.std.proofs.Common.{length, arith}
use Rattle.area_kernels.proofs.CopiedSamples.{bytes_of_row, rows_copied}
use Rattle.area_kernels.proofs.rows.copy_rows.Goals as goal

pub copy_samples-requires-clause-read : goal.copy_samples-requires-clause-read
copy_samples-requires-clause-read g c =
    bytes_of_row g.L.Lanes.depth c.loop-y.y c.args.rows c.args.count c.args.stride (length c.args.from.now) c.loop-y-test.true c.requires.narrow c.requires.read

pub copy_samples-requires-clause-written : goal.copy_samples-requires-clause-written
copy_samples-requires-clause-written g c =
    bytes_of_row g.L.Lanes.depth c.loop-y.y c.args.rows c.args.count c.args.count (length c.loop-y.to) c.loop-y-test.true (omega arith) (omega (arith, c.loop-y.auto.to, c.requires.written))

pub loop-y-preserved : goal.loop-y-preserved
loop-y-preserved g c =
    rows_copied g.L.Lanes.depth c.loop-y.y c.args.count c.args.stride c.args.from.now c.copy_samples.new.to c.loop-y.to c.loop-y.invariant
    c.copy_samples.ensures.here c.copy_samples.ensures.before
