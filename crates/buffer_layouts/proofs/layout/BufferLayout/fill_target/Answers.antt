use Rattle.std.proofs.Common.{refl, sym, ◌∙◌}
use Rattle.model_buffers.specs.BufferEdit.{fill_refused}
use Rattle.buffer_layouts.proofs.Answering.{target-known, target-unknown}
use Rattle.buffer_layouts.proofs.layout.BufferLayout.fill_target.Goals as goal

pub returns-in-Some : goal.returns-in-Some
returns-in-Some c =
    target-known (λ shape. fill_refused shape c.args.rect c.args.samples.now) refl (sym c.view.ensures.value ∙ c.in-Some.is)
    c.fill_refused.ensures c.unless_refused.ensures.view c.unless_refused.ensures.refused

pub returns-in-None : goal.returns-in-None
returns-in-None c = target-unknown (λ shape. fill_refused shape c.args.rect c.args.samples.now) refl (sym c.view.ensures.value ∙ c.in-None.is)
