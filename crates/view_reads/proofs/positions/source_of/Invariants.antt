use Rattle.plane_rect.specs.Rectangle.{IsRectangle}
use Rattle.view_reads.proofs.Sources.{IsSource}
use Rattle.view_reads.proofs.positions.source_of.Given as goal

abbrev pub invariant-loop-step : goal.invariant-loop-step
invariant-loop-step l = record {
  rectangle : IsRectangle l.source;
  source : IsSource l._step l.fn.at l.source;
}
