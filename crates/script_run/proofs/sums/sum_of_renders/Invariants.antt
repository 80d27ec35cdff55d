use Rattle.std.proofs.Common.{◌≡◌, ◌≤◌, ◌*◌, ◌^◌, map, sum}
use Rattle.std.specs.List.{range_with_len}
use Rattle.script_run.proofs.SumLaws.{file_sum}
use Rattle.script_run.proofs.sums.sum_of_renders.Given as goal

abbrev pub invariant-loop-number : goal.invariant-loop-number
invariant-loop-number l = record {
  value : l.total ≡ sum (map (file_sum l.fn.shelf) (range_with_len 0 l.number));
  bound : l.total ≤ 2 ^ 72 * l.number;
}
