use Rattle.std.proofs.Common.{◌≡◌, ℕ, ◌+◌, ◌*◌, ◌<◌, ◌≤◌}
use Rattle.pixel_formats.specs.Sample.{sample_at}
use Rattle.area_kernels.specs.Columns.{HoldsColumns}
use Rattle.area_kernels.proofs.MeanLaws.{mean_at}
use Rattle.area_kernels.proofs.means.mean_rows.Given as goal

abbrev pub invariant-loop-y : goal.invariant-loop-y
invariant-loop-y g l =
    let d = g.L.Lanes.depth in
    let n = l.channels in
    let w = l.area.width in
    record {
      columns : l.y < l.area.height → HoldsColumns d l.stride (2 * l.area.radius + 1) l.y l.patch (g.C.ColumnSums.sum l.columns);
      clear : (i : ℕ) → w * n ≤ i → g.S.SquareSums.sum l.squares i ≡ 0;
      made : (x y c : ℕ) → x < w → y < l.y → c < n → sample_at d l.dst (y * (w * n) + (x * n + c)) ≡ mean_at d w l.area.radius n l.patch x y c;
    }
