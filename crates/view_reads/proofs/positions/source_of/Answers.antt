use Rattle.std.proofs.Common.{subst, sym}
use Rattle.plane_rect.specs.Rectangle.{IsRectangle}
use Rattle.view_reads.proofs.Sources.{source-first, source-next, tile-rectangle}
use Rattle.view_reads.proofs.positions.source_of.Goals as goal

pub loop-step-init : goal.loop-step-init
loop-step-init c = record {
  rectangle = subst IsRectangle (sym c.rect-source.ensures.value) (tile-rectangle c.args.at);
  source = source-first c.args.at c.rect-source.result c.rect-source.ensures.positions;
}

pub loop-step-preserved : goal.loop-step-preserved
loop-step-preserved c = record {
  rectangle = c.below-source.ensures.rectangle;
  source = source-next c.loop-step._step c.args.at c.loop-step.source c.below-source.result c.loop-step.invariant.source c.below-source.ensures.positions;
}
