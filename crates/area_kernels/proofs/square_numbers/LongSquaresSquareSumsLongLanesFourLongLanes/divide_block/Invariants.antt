use Rattle.std.proofs.Common.{◌≡◌, ℕ, ◌+◌, ◌<◌, length, slice_index}
use Rattle.area_kernels.specs.Sequences.{mean_sum}
use Rattle.area_kernels.proofs.square_numbers.LongSquaresSquareSumsLongLanesFourLongLanes.divide_block.Given as goal

abbrev pub invariant-loop-lane : goal.invariant-loop-lane
invariant-loop-lane l = record {
  long : length l.quotients ≡ 16;
  made : (j : ℕ) → j < l.lane → slice_index l.quotients j ≡ mean_sum l.divisor.count (slice_index l.self.numbers (l.at + j));
}
