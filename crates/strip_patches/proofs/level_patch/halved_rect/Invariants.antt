use Rattle.std.proofs.Common.{◌≡◌}
use Rattle.model_images.specs.Level.{level_box}
use Rattle.strip_patches.proofs.level_patch.halved_rect.Given as goal

abbrev pub invariant-loop-round : goal.invariant-loop-round
invariant-loop-round l = l.halved ≡ level_box l.fn.rect l._round
