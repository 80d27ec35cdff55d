use Rattle.std.proofs.Common.{◌≡◌, take}
use Rattle.model_operations.specs.Windows.{max_of_all}
use Rattle.plain_images.proofs.windows.Window.max_sample.Given as goal

abbrev pub invariant-loop-index : goal.invariant-loop-index
invariant-loop-index l = l.max_sample ≡ max_of_all (take l.index l.self)
