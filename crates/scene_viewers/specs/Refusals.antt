-- Refusals of a hub as those of a viewer.
use Rattle.scene_hub.specs.declared.refusals.ViewRefused.{ViewRefused as Entering}
use Rattle.scene_hub.specs.declared.refusals.ViewRefused.TheVariants as entering
use Rattle.scene_viewers.specs.declared.refused.ViewRefused.{ViewRefused}
use Rattle.scene_viewers.specs.declared.refused.ViewRefused.TheVariants as refusals

abbrev pub by_entering : Entering → ViewRefused
by_entering entering.NoEntry = refusals.NoEntry
by_entering entering.NoMemory = refusals.NoMemory
