use Rattle.std.proofs.Common.{◌≡◌, drop}
use Rattle.model_states.specs.Rectangles.{rectangle_of}
use Rattle.plain_graphs.proofs.changes.rectangle_of.Given as goal

abbrev pub invariant-loop-name : goal.invariant-loop-name
invariant-loop-name l = rectangle_of (drop l.name-index l.rectangles) l.root ≡ rectangle_of l.rectangles l.root
