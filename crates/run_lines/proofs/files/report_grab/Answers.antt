use Rattle.std.proofs.Common.{◌≡◌, ◌∙◌}
use Rattle.run_lines.proofs.Leaving.{Leaves-same_text}
use Rattle.model_runs.specs.Texts.{grab_text}
use Rattle.run_lines.proofs.files.report_grab.Goals as goal

pub returns-clause-leaves : goal.returns-clause-leaves
returns-clause-leaves g c = λ files.
    let text : c.deref.result.now ≡ grab_text c.args.line c.args.bytes = c.deref.ensures ∙ c.in_ok-text.ensures in
    Leaves-same_text _ _ _ _ _ text (c.put_text.ensures.leaves files)
