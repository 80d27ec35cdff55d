use Rattle.std.proofs.Common.{◌≡◌}
use Rattle.model_images.specs.Level.{level_box}
use Rattle.view_reads.proofs.positions.level_box.Given as goal

abbrev pub invariant-loop-step : goal.invariant-loop-step
invariant-loop-step l = l.halved ≡ level_box l.fn.bounds l._step
