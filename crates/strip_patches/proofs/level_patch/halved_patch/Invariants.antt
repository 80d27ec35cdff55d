use Rattle.std.proofs.Common.{◌≡◌}
use Rattle.model_images.specs.Level.{level}
use Rattle.strip_patches.proofs.level_patch.halved_patch.Given as goal

abbrev pub invariant-loop-round : goal.invariant-loop-round
invariant-loop-round l = l.halved ≡ level l.fn.patch l._round
