use Rattle.std.proofs.Common.{◌≡◌, ◌*◌, ◌≤◌, take}
use Rattle.std.specs.List.{sum}
use Rattle.plain_images.proofs.windows.Window.mean.Given as goal

abbrev pub invariant-loop-index : goal.invariant-loop-index
invariant-loop-index l = record { value : l.sum ≡ sum (take l.index l.self); most : l.sum ≤ 4294967295 * l.index }
