use Rattle.std.proofs.Common.{◌≡◌, ℕ, ◌+◌, ◌*◌, ◌<◌}
use Rattle.area_kernels.specs.Sequences.{sum_of}
use Rattle.area_kernels.proofs.SumLaws.{SumsBelow}
use Rattle.area_kernels.proofs.sums.sum_row.Given as goal

abbrev pub invariant-loop-x : goal.invariant-loop-x
invariant-loop-x g l = record {
  made : SumsBelow (g.C.ColumnSums.sum l.row) l.channels l.reach l.width l.x (g.S.SquareSums.sum l.squares);
  next : (c : ℕ) → c < l.channels → g.F.FourSums.lane l.sum c ≡ sum_of l.reach (λ k. g.C.ColumnSums.sum l.row ((l.x + k) * l.channels + c));
}
