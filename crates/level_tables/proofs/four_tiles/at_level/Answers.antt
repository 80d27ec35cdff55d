use Rattle.std.proofs.Common.{◌∙◌, ap}
use Rattle.model_images.specs.Level.{tile_above}
use Rattle.level_tables.proofs.Keeping.{tile_at_level-next}
use Rattle.level_tables.proofs.four_tiles.at_level.Goals as goal

pub loop-step-preserved : goal.loop-step-preserved
loop-step-preserved c = c.tile_above-above.ensures ∙ ap tile_above c.loop-step.invariant ∙ tile_at_level-next c.args.at c.loop-step._step
