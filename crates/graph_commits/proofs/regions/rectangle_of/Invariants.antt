use Rattle.std.proofs.Common.{◌≡◌, drop}
use Rattle.model_graphs.specs.Facts.{rectangles_of}
use Rattle.model_states.specs.Rectangles.{rectangle_of}
use Rattle.graph_commits.proofs.regions.rectangle_of.Given as goal

abbrev pub invariant-loop-written : goal.invariant-loop-written
invariant-loop-written l =
    rectangle_of (rectangles_of (drop l.written-index l.edited)) l.root ≡ rectangle_of (rectangles_of l.edited) l.root
