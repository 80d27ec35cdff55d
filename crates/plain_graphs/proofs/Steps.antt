-- Nodes walked one after another.
use Rattle.std.proofs.Common.{ℕ, List, map, drop}
use Rattle.model_graphs.specs.Node.{Node, Step, step_of}
use Rattle.model_graphs.specs.Meanings.{Meanings}
use Rattle.model_graphs.specs.Shapes.{Shape, Shapes}
use Rattle.model_states.specs.Valid.{shapes_after}

-- the steps of the nodes from a position on
abbrev pub steps_from : {Op : Type 0} → List (Node Op) → ℕ → List (Step Op)
steps_from {Op} nodes index = map (λ (node : Node Op). step_of nodes node.body) (drop index nodes)

-- the shapes of all nodes, where those of the nodes before a position are known
abbrev pub shapes_from : {Op : Type 0} → Meanings Op → Shapes → List (Node Op) → List Shape → ℕ → List Shape
shapes_from meanings shapes nodes known index = shapes_after meanings shapes known (steps_from nodes index)
