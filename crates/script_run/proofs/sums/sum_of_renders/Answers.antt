use Rattle.std.proofs.Common.{◌∙◌, arith}
use Rattle.model_runs.specs.MadeJob.{render_sum}
use Rattle.script_run.proofs.SumLaws.{sums_at_end, sums_more}
use Rattle.script_run.proofs.sums.sum_of_renders.Goals as goal

pub loop-number-preserved : goal.loop-number-preserved
loop-number-preserved c = record {
  value = sums_more c.args.shelf.now c.loop-number.number c.loop-number.total c.sum_of_file-total.result c.deref.result.now c.loop-number.invariant.value
      (c.deref.ensures ∙ c.in_ok-name.ensures) c.sum_of_file-total.ensures.value;
  bound = omega (arith, c.loop-number.invariant.bound, c.sum_of_file-total.ensures.bound);
}

pub returns : goal.returns
unfolding render_sum
returns c =
    sums_at_end c.args.shelf.now 28 c.loop-number.number c.loop-number.total c.loop-number.auto.number-end c.loop-number-test.false c.loop-number.invariant.value
