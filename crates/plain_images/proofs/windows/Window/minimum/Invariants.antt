use Rattle.std.proofs.Common.{◌≡◌, take}
use Rattle.model_operations.specs.Windows.{min_of_all}
use Rattle.plain_images.proofs.windows.Window.minimum.Given as goal

abbrev pub invariant-loop-index : goal.invariant-loop-index
invariant-loop-index l = l.minimum ≡ min_of_all (take l.index l.self)
