use Rattle.std.proofs.Common.{[], ◌∷◌}
use Rattle.model_runs.specs.MadeJob.{render_sum}
use Rattle.run_lines.proofs.Leaving.{HasCause-same_end, HasCause-then, Leaves-first, Leaves-same_end, Leaves-then, none_falls}
use Rattle.model_runs.specs.Events.{Puts, events_alone}
use Rattle.model_runs.specs.Texts.{report_text, sum_text}
use Rattle.script_run.proofs.endings.put_job_end.Goals as goal

pub returns-in_err-put_sum-clause-leaves : goal.returns-in_err-put_sum-clause-leaves
returns-in_err-put_sum-clause-leaves g c = λ files.
    Leaves-same_end _ _ _ _ _ c.from_residual.ensures.1
    (Leaves-first (Puts (sum_text (render_sum c.args.shelf.now)) ∷ []) (events_alone (Puts (report_text c.args.counts.applied c.args.counts.reused) ∷ [])) _ _ _
    (c.in_err-put_sum.ensures.leaves files))

pub returns-in_err-put_sum-clause-cause : goal.returns-in_err-put_sum-clause-cause
returns-in_err-put_sum-clause-cause g c = λ reads writes.
    HasCause-same_end _ _ _ _ c.from_residual.ensures.1 (c.in_err-put_sum.ensures.cause reads writes)

pub returns-clause-leaves : goal.returns-clause-leaves
returns-clause-leaves g c = λ files.
    Leaves-then (Puts (sum_text (render_sum c.args.shelf.now)) ∷ []) (events_alone (Puts (report_text c.args.counts.applied c.args.counts.reused) ∷ [])) _ _ _ _
    ((c.in_ok-put_sum.ensures.leaves files).whole tt) (c.put_report.ensures.leaves files)

pub returns-clause-cause : goal.returns-clause-cause
returns-clause-cause g c = λ reads writes.
    HasCause-then _ _ _ _ (none_falls (c.in_ok-put_sum.ensures.cause reads writes)) (c.put_report.ensures.cause reads writes)
