use Rattle.std.proofs.Common.{◌∙◌, ap}
use Rattle.plane_rect.specs.Rectangle.{halved}
use Rattle.view_reads.proofs.Sources.{box-next}
use Rattle.view_reads.proofs.positions.level_box.Goals as goal

pub loop-step-preserved : goal.loop-step-preserved
loop-step-preserved c = c.halved-halved.ensures.value ∙ ap halved c.loop-step.invariant ∙ box-next c.args.bounds c.loop-step._step
