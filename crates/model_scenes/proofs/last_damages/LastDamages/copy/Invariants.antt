use Rattle.std.proofs.Common.{◌≡◌, take}
use Rattle.model_scenes.proofs.last_damages.LastDamages.copy.Given as goal

abbrev pub invariant-loop-damage : goal.invariant-loop-damage
invariant-loop-damage l = l.copied.items ≡ take l.damage-index l.self
