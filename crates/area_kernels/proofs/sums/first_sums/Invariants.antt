use Rattle.std.proofs.Common.{◌≡◌, ℕ, ◌+◌, ◌*◌, ◌<◌}
use Rattle.area_kernels.specs.Sequences.{sum_of}
use Rattle.area_kernels.proofs.sums.first_sums.Given as goal

abbrev pub invariant-loop-pixel : goal.invariant-loop-pixel
invariant-loop-pixel g l = (c : ℕ) → c < l.channels → g.F.FourSums.lane l.sums c ≡ sum_of l.pixel (λ k. g.C.ColumnSums.sum l.row (k * l.channels + c))
