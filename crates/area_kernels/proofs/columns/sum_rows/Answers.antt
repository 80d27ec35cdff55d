use Rattle.std.proofs.Common.{◌+◌, ◌*◌, ap, ◌∙◌, arith}
use Rattle.pixel_formats.specs.Sample.{sample_at}
use Rattle.area_kernels.specs.Sequences.{sum_of}
use Rattle.area_kernels.proofs.SumLaws.{ChangedBelow-more, sum_of-same}
use Rattle.area_kernels.proofs.columns.sum_rows.Goals as goal

pub loop-block-init : goal.loop-block-init
loop-block-init g c = record { changed = λ i lt. absurd (omega arith); rest = λ i le. c.zeros-columns.ensures i }

pub sum_block-requires-clause-clear : goal.sum_block-requires-clause-clear
sum_block-requires-clause-clear g c j lt = c.loop-block.invariant.rest (16 * c.loop-block.block + j) (omega arith)

pub loop-block-preserved : goal.loop-block-preserved
loop-block-preserved g c =
    let s = sample_at g.L.Lanes.depth c.args.samples.now in
    let at = 16 * c.loop-block.block in
    ChangedBelow-more (λ i _. sum_of c.args.side (λ row. s (row * c.args.stride + i))) at (16 * (c.loop-block.block + 1)) (λ _. 0) (g.C.ColumnSums.sum c.loop-block.columns) (g.C.ColumnSums.sum c.sum_block.new.columns)
    (omega arith) c.loop-block.invariant c.sum_block.ensures.here c.sum_block.ensures.before c.sum_block.ensures.after

pub returns : goal.returns
returns g c =
    let s = sample_at g.L.Lanes.depth c.args.samples.now in
    record {
      columns = λ i lt.
          c.loop-block.invariant.changed i (omega arith)
          ∙ sum_of-same c.args.side (λ row. s (row * c.args.stride + i)) (λ j. s ((0 + j) * c.args.stride + i)) (λ j _. ap (λ n. s (n * c.args.stride + i)) (omega arith));
    }
