use Rattle.std.proofs.Common.{Some, None, map, string_bytes, sym, ap, ◌∙◌, refl, arith}
use Rattle.model_runs.proofs.OptionRanges.{in_range}
use Rattle.model_runs.specs.Words.{ScriptRun, asked_job}
use Rattle.run_words.specs.Meant.{asked, options_meant}
use Rattle.script_run.proofs.Jobs.{job_cause, job_ran}
use Rattle.script_run.proofs.Promises.{cause_named, job_asked, ran_named, script_asked, unswapped_named}
use Rattle.script_run.proofs.program.run.Goals as goal

pub run_script-ended-requires-clause-options : goal.run_script-ended-requires-clause-options
run_script-ended-requires-clause-options g c κs within =
    let asks = sym c.in-Some-RunScript.ensures.request ∙ ap (λ request. Some (asked request)) c.in-Some-RunScript.field-0-is in
    in_range (map string_bytes c.args.words.now) c.in-Some-RunScript.script.now (options_meant c.in-Some-RunScript.options) asks

pub returns-in-Some-RunScript-clause-ran : goal.returns-in-Some-RunScript-clause-ran
returns-in-Some-RunScript-clause-ran g c =
    let asks = sym c.in-Some-RunScript.ensures.request ∙ ap (λ request. Some (asked request)) c.in-Some-RunScript.field-0-is in
    let options = options_meant c.in-Some-RunScript.options in
    let run : ScriptRun = record { script = c.in-Some-RunScript.script.now; options = options } in
    ran_named _ run _ _ c.run_script-ended.result c.status_of.result _ _ _ _ (script_asked (map string_bytes c.args.words.now) c.in-Some-RunScript.script.now options asks) c.status_of.ensures refl refl
    c.run_script-ended.ensures.carried c.run_script-ended.ensures.faults

pub returns-in-Some-RunScript-clause-unswapped : goal.returns-in-Some-RunScript-clause-unswapped
returns-in-Some-RunScript-clause-unswapped g c =
    let asks = sym c.in-Some-RunScript.ensures.request ∙ ap (λ request. Some (asked request)) c.in-Some-RunScript.field-0-is in
    let options = options_meant c.in-Some-RunScript.options in
    let run : ScriptRun = record { script = c.in-Some-RunScript.script.now; options = options } in
    unswapped_named _ run _ _ c.run_script-ended.result c.status_of.result _ _ _ _ (script_asked (map string_bytes c.args.words.now) c.in-Some-RunScript.script.now options asks) c.status_of.ensures
    c.run_script-ended.ensures.unswapped c.run_script-ended.ensures.carried c.run_script-ended.ensures.faults

pub returns-in-Some-RunScript-clause-cause : goal.returns-in-Some-RunScript-clause-cause
returns-in-Some-RunScript-clause-cause g c = cause_named c.run_script-ended.result c.status_of.result _ _ c.status_of.ensures c.run_script-ended.ensures.faults

pub returns-in-Some-MakeJob-clause-job : goal.returns-in-Some-MakeJob-clause-job
returns-in-Some-MakeJob-clause-job g c =
    let asks = sym c.in-Some-MakeJob.ensures.request ∙ ap (λ request. Some (asked request)) c.in-Some-MakeJob.field-0-is in
    job_ran c.in-Some-MakeJob.number c.status_of-in-Some-MakeJob.result c.run_job.result _ _ _ _ c.status_of-in-Some-MakeJob.ensures c.run_job.ensures.faults
    (asked_job (map string_bytes c.args.words.now)) c.args.shelf.now c.args.swap.now (job_asked (map string_bytes c.args.words.now) c.in-Some-MakeJob.number asks) c.run_job.ensures.carried

pub returns-in-Some-MakeJob-clause-cause : goal.returns-in-Some-MakeJob-clause-cause
returns-in-Some-MakeJob-clause-cause g c =
    job_cause c.in-Some-MakeJob.number c.status_of-in-Some-MakeJob.result c.run_job.result (g.O.Sink.written c.args.out.now) (g.O.Sink.written c.run_job.new.out) (g.O.Sink.faults c.args.out.now) (g.O.Sink.faults c.run_job.new.out)
    c.status_of-in-Some-MakeJob.ensures c.run_job.ensures.faults _ _ _

pub returns-in-Some-MakeJob-clause-counts : goal.returns-in-Some-MakeJob-clause-counts
returns-in-Some-MakeJob-clause-counts g c = record { reads = omega arith; writes = omega arith; swaps = omega arith; puts = (c.run_job.ensures.faults None None).puts }
