use Rattle.std.proofs.Common.{◌≡◌, ℕ, ◌*◌, ◌<◌}
use Rattle.pixel_formats.specs.Sample.{sample_at}
use Rattle.area_kernels.specs.Sequences.{mean_sum}
use Rattle.area_kernels.proofs.square_sums.divide_row.Given as goal

abbrev pub invariant-loop-block : goal.invariant-loop-block
invariant-loop-block g l =
    let S = g.S.SquareSums in
    (i : ℕ) → i < 16 * l.block → sample_at g.L.Lanes.depth l.means i ≡ mean_sum (S.count l.divisor) (S.sum l.squares i)
