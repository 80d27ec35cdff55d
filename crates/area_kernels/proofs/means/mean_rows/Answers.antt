use Rattle.std.proofs.Common.{◌≡◌, ℕ, ◌+◌, ◌*◌, length, ◌∙◌, subst, arith}
use Rattle.area_kernels.specs.Columns.{HoldsColumns}
use Rattle.area_kernels.proofs.CopiedSamples.{bytes_of_row}
use Rattle.area_kernels.proofs.MeanLaws.{columns_small, mean_of_columns, mean_rows_more}
use Rattle.area_kernels.proofs.means.mean_rows.Goals as goal

pub loop-y-init : goal.loop-y-init
loop-y-init g c = record {
  columns = λ some. subst (λ (m : ℕ). HoldsColumns g.L.Lanes.depth c.stride-stride.result m 0 c.args.patch.now (g.C.ColumnSums.sum c.sum_rows-columns.result)) c.side-side.ensures c.sum_rows-columns.ensures;
  clear = λ i le. c.zeros-squares.ensures i;
  made = λ x y k column row channel. absurd (omega arith);
}

pub mean_row-requires-clause-small : goal.mean_row-requires-clause-small
mean_row-requires-clause-small g c i within =
    columns_small g.L.Lanes.depth c.stride-stride.result (2 * c.args.area.radius + 1) c.loop-y.y c.args.patch.now (g.C.ColumnSums.sum c.loop-y.columns) c.type_inv.patch
    (c.loop-y.invariant.columns c.loop-y-test.true) i (omega (arith, c.stride-stride.ensures, within))

pub copy_samples-requires-clause-written : goal.copy_samples-requires-clause-written
copy_samples-requires-clause-written g c =
    let area = c.args.area in
    let count = area.width * c.args.channels in
    bytes_of_row g.L.Lanes.depth c.loop-y.y area.height count count (length c.loop-y.dst) c.loop-y-test.true (omega arith) (omega (arith, c.loop-y.auto.dst, c.requires.written))

pub loop-y-preserved : goal.loop-y-preserved
loop-y-preserved g c =
    let d = g.L.Lanes.depth in
    let area = c.args.area in
    let n = c.args.channels in
    let y = c.loop-y.y in
    let stride = c.stride-stride.result in
    let is_count : g.S.SquareSums.count c.divisor-divisor.result ≡ (2 * area.radius + 1) * (2 * area.radius + 1) =
    c.divisor-divisor.ensures ∙ (λ t. c.side-side.ensures t * c.side-side.ensures t) in
    record {
      columns = λ more. c.next_columns.ensures more;
      clear = c.mean_row.ensures.clear;
      made = mean_rows_more d area.width area.radius n y c.args.patch.now c.loop-y.dst c.copy_samples.new.to c.mean_row.new.means c.loop-y.invariant.made
          (λ x k column channel.
          mean_of_columns d area.width area.radius n y stride (g.S.SquareSums.count c.divisor-divisor.result) c.args.patch.now (g.C.ColumnSums.sum c.loop-y.columns) c.mean_row.new.means c.stride-stride.ensures is_count
          (c.loop-y.invariant.columns c.loop-y-test.true) x k column channel (c.mean_row.ensures.made x k column channel))
          c.copy_samples.ensures.here c.copy_samples.ensures.before;
    }

pub returns : goal.returns
returns g c x y k column row channel = c.loop-y.invariant.made x y k column (omega arith) channel
