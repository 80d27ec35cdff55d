use Rattle.std.proofs.Common.{◌≡◌}
use Rattle.model_images.specs.Level.{level}
use Rattle.plain_images.proofs.levels.level.Given as goal

abbrev pub invariant-loop-halving : goal.invariant-loop-halving
invariant-loop-halving l = l.reduced ≡ level l.picture l._halving
