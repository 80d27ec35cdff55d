use Rattle.std.proofs.Common.{◌≡◌, []}
use Rattle.model_graphs.specs.Facts.{shapes_of_facts}
use Rattle.model_states.specs.Valid.{steps_of}
use Rattle.graph_commits.specs.States.{HaveRectangularBoxes, shapes_unless_refused}
use Rattle.graph_commits.proofs.WalkLaws.{steps_from}
use Rattle.graph_commits.proofs.walk.walk.Given as goal

abbrev pub invariant-loop-node : goal.invariant-loop-node
invariant-loop-node g l =
    (shapes_unless_refused g.K.Op.OpMeaning.meanings (shapes_of_facts l.buffers) l.known.items (steps_from l.draft l.node-index)
    ≡ shapes_unless_refused g.K.Op.OpMeaning.meanings (shapes_of_facts l.buffers) [] (steps_of l.draft))
    × HaveRectangularBoxes l.known.items
