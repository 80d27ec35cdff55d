use Rattle.std.proofs.Common.{refl, ◌∙◌}
use Rattle.model_runs.specs.MadeJob.{draws, state_after_draws}
use Rattle.made_jobs.proofs.Texts.{fill_put, on_ok}
use Rattle.made_jobs.proofs.script.put_fill.Goals as goal

pub returns-clause-text : goal.returns-clause-text
unfolding draws
returns-clause-text c =
    on_ok c.put_draw-5.result _ _
    (λ last.
    last
    ∙ rw (c.in_ok-put_draw-4.ensures.text, c.in_ok-put_draw-3.ensures.text, c.in_ok-put_size-2.ensures.text, c.in_ok-put_size.ensures.text, c.in_ok-put_draw-2.ensures.text, c.in_ok-put_draw.ensures.text, c.in_ok-extend_from_slice.ensures.items, c.as_bytes.ensures.value, c.in_ok-put_draw-4.ensures.state, c.in_ok-put_draw-3.ensures.state, c.in_ok-put_size-2.ensures.state, c.in_ok-put_size.ensures.state, c.in_ok-put_draw-2.ensures.state, c.in_ok-put_draw.ensures.state)
    (fill_put c.args.text.now.items _ _ _ _ _ _ _))
    c.put_draw-5.ensures.text

pub returns-clause-state : goal.returns-clause-state
unfolding state_after_draws
returns-clause-state c =
    on_ok c.put_draw-5.result _ _
    (λ last.
    last
    ∙ rw (c.in_ok-put_draw-4.ensures.state, c.in_ok-put_draw-3.ensures.state, c.in_ok-put_size-2.ensures.state, c.in_ok-put_size.ensures.state, c.in_ok-put_draw-2.ensures.state, c.in_ok-put_draw.ensures.state) refl)
    c.put_draw-5.ensures.state
