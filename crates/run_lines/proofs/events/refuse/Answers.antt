use Rattle.std.proofs.Common.{◌≡◌, ◌∙◌}
use Rattle.model_runs.specs.Texts.{refusal_text}
use Rattle.run_lines.proofs.Leaving.{Leaves-same_text, Leaves-same_end, Leaves-exposed, Leaves-refused, HasCause-same_end, refused_cause, none_falls}
use Rattle.run_lines.proofs.events.refuse.Goals as goal

pub returns-in_err-put_text-clause-leaves : goal.returns-in_err-put_text-clause-leaves
returns-in_err-put_text-clause-leaves g c = λ files.
    let text : c.deref.result.now ≡ refusal_text c.args.line c.args.cause = c.deref.ensures ∙ c.in_ok-text.ensures in
    Leaves-same_end _ _ _ _ _ c.from_residual-in_err-put_text.ensures.1
    (Leaves-exposed _ _ _ _ _ (Leaves-same_text _ _ _ _ _ text (c.in_err-put_text.ensures.leaves files)))

pub returns-in_err-put_text-clause-cause : goal.returns-in_err-put_text-clause-cause
returns-in_err-put_text-clause-cause g c = λ reads writes.
    HasCause-same_end _ _ _ _ c.from_residual-in_err-put_text.ensures.1 (c.in_err-put_text.ensures.cause reads writes)

pub returns-clause-leaves : goal.returns-clause-leaves
returns-clause-leaves g c = λ files.
    let text : c.deref.result.now ≡ refusal_text c.args.line c.args.cause = c.deref.ensures ∙ c.in_ok-text.ensures in
    Leaves-refused _ _ _ _ ((Leaves-same_text _ _ _ _ _ text (c.in_ok-put_text.ensures.leaves files)).whole tt)

pub returns-clause-cause : goal.returns-clause-cause
returns-clause-cause g c = λ reads writes. refused_cause _ _ (none_falls (c.in_ok-put_text.ensures.cause reads writes))
