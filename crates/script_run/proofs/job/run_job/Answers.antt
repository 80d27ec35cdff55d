use Rattle.std.proofs.Common.{Some, length, min, refl}
use Rattle.model_runs.specs.MadeJob.{made_files}
use Rattle.run_lines.proofs.Faults.{faults_by_cause, faults_then}
use Rattle.run_words.specs.Meant.{options_meant}
use Rattle.script_run.proofs.Jobs.{err_faults, job_carried, job_counted, job_ended, job_faults, job_memory, job_then, memory_faults, zeros_count}
use Rattle.script_run.specs.Carried.{job_moment}
use Rattle.script_run.proofs.job.run_job.Goals as goal

pub returns-in_err-shelf-clause-carried : goal.returns-in_err-shelf-clause-carried
returns-in_err-shelf-clause-carried g c =
    (Some (made_files c.args.number), job_memory c.args.number c.from_residual.result (g.O.Sink.written c.args.out.now) (g.O.Sink.faults c.args.out.now) c.from_residual.ensures.1)

pub returns-in_err-shelf-clause-faults : goal.returns-in_err-shelf-clause-faults
returns-in_err-shelf-clause-faults g c = λ before after.
    memory_faults c.from_residual.result before after (g.O.Sink.written c.args.out.now) (g.O.Sink.faults c.args.out.now) c.from_residual.ensures.1

pub returns-in_err-swap-clause-carried : goal.returns-in_err-swap-clause-carried
returns-in_err-swap-clause-carried g c =
    (Some (made_files c.args.number), job_memory c.args.number c.from_residual-in_err-swap.result (g.O.Sink.written c.args.out.now) (g.O.Sink.faults c.args.out.now) c.from_residual-in_err-swap.ensures.1)

pub returns-in_err-swap-clause-faults : goal.returns-in_err-swap-clause-faults
returns-in_err-swap-clause-faults g c = λ before after.
    memory_faults c.from_residual-in_err-swap.result before after (g.O.Sink.written c.args.out.now) (g.O.Sink.faults c.args.out.now) c.from_residual-in_err-swap.ensures.1

pub returns-in_err-counts-clause-carried : goal.returns-in_err-counts-clause-carried
returns-in_err-counts-clause-carried g c =
    let text = g.O.Sink.written c.args.out.now in
    let later = g.O.Sink.written c.carry_out_script.new.out in
    let puts = g.O.Sink.faults c.args.out.now in
    let more = g.O.Sink.faults c.carry_out_script.new.out in
    let options = options_meant c.without_words-options.result in
    let left = Some c.carry_out_script.new.shelf in
    let size = zeros_count 16384 c.in_ok-swap.swap c.in_ok-swap.ensures in
    let carried = job_carried c.args.number c.in_ok-shelf.shelf options c.in_ok-shelf.ensures c.without_words-options.ensures (length c.in_ok-swap.swap) _ text later puts more left size c.in_err-counts.ensures.carried in (
      left,
      job_ended c.args.number _ c.from_residual-in_err-counts.result (job_moment (Some (made_files c.args.number)) text puts) (job_moment left later more) c.from_residual-in_err-counts.ensures.1 carried,
    )

pub returns-in_err-counts-clause-faults : goal.returns-in_err-counts-clause-faults
returns-in_err-counts-clause-faults g c = λ before after.
    let text = g.O.Sink.written c.args.out.now in
    let later = g.O.Sink.written c.carry_out_script.new.out in
    let puts = g.O.Sink.faults c.args.out.now in
    let more = g.O.Sink.faults c.carry_out_script.new.out in
    let options = options_meant c.without_words-options.result in
    err_faults _ c.from_residual-in_err-counts.result (job_moment before text puts) (job_moment after later more) c.from_residual-in_err-counts.ensures.1
    (job_faults _ before after (Some c.in_ok-shelf.shelf) (Some c.carry_out_script.new.shelf) text later puts more (min options.swap_blocks (length c.in_ok-swap.swap)) options.resident c.in_err-counts.ensures.faults)

pub returns-clause-carried : goal.returns-clause-carried
returns-clause-carried g c =
    let text = g.O.Sink.written c.args.out.now in
    let later = g.O.Sink.written c.carry_out_script.new.out in
    let puts = g.O.Sink.faults c.args.out.now in
    let more = g.O.Sink.faults c.carry_out_script.new.out in
    let options = options_meant c.without_words-options.result in
    let left = Some c.carry_out_script.new.shelf in
    let size = zeros_count 16384 c.in_ok-swap.swap c.in_ok-swap.ensures in
    let carried = job_carried c.args.number c.in_ok-shelf.shelf options c.in_ok-shelf.ensures c.without_words-options.ensures (length c.in_ok-swap.swap) _ text later puts more left size c.in_ok-counts.ensures.carried in
    let counted = job_counted c.args.number c.in_ok-shelf.shelf options c.in_ok-shelf.ensures c.without_words-options.ensures c.in_ok-counts.counts.applied c.in_ok-counts.counts.reused c.in_ok-counts.ensures.counts in (
      left,
      job_then c.args.number c.carry_out_script.new.shelf c.in_ok-counts.counts.applied c.in_ok-counts.counts.reused c.put_job_end.result text later (g.O.Sink.written c.put_job_end.new.out) puts more (g.O.Sink.faults c.put_job_end.new.out)
          carried counted (c.put_job_end.ensures.cause 0 0).room (c.put_job_end.ensures.leaves left),
    )

pub returns-clause-faults : goal.returns-clause-faults
returns-clause-faults g c = λ before after.
    let text = g.O.Sink.written c.args.out.now in
    let later = g.O.Sink.written c.carry_out_script.new.out in
    let puts = g.O.Sink.faults c.args.out.now in
    let more = g.O.Sink.faults c.carry_out_script.new.out in
    let options = options_meant c.without_words-options.result in
    let first = job_faults _ before before (Some c.in_ok-shelf.shelf) (Some c.carry_out_script.new.shelf) text later puts more (min options.swap_blocks (length c.in_ok-swap.swap)) options.resident c.in_ok-counts.ensures.faults in
    let mid = job_moment before later more in
    let new = job_moment after (g.O.Sink.written c.put_job_end.new.out) (g.O.Sink.faults c.put_job_end.new.out) in
    faults_then _ c.put_job_end.result (job_moment before text puts) mid new first (faults_by_cause c.put_job_end.result mid new refl (c.put_job_end.ensures.cause 0 0))
