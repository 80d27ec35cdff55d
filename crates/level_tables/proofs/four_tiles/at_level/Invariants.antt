use Rattle.std.proofs.Common.{◌≡◌}
use Rattle.model_images.specs.Level.{tile_at_level}
use Rattle.level_tables.proofs.four_tiles.at_level.Given as goal

abbrev pub invariant-loop-step : goal.invariant-loop-step
invariant-loop-step l = l.above ≡ tile_at_level l.fn.at l._step
