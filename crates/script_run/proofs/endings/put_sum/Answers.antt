use Rattle.std.proofs.Common.{◌≡◌, ap, ◌∙◌}
use Rattle.model_runs.specs.MadeJob.{render_sum}
use Rattle.run_lines.proofs.Leaving.{Leaves-same_text}
use Rattle.model_runs.specs.Texts.{sum_text}
use Rattle.script_run.proofs.endings.put_sum.Goals as goal

pub returns-clause-leaves : goal.returns-clause-leaves
returns-clause-leaves g c = λ files.
    let text : c.deref.result.now ≡ sum_text (render_sum c.args.shelf.now) = c.deref.ensures ∙ c.in_ok-text.ensures ∙ ap sum_text c.in_ok-sum.ensures in
    Leaves-same_text _ _ _ _ _ text (c.put_text.ensures.leaves files)
