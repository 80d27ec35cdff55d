use Rattle.std.proofs.Common.{◌≡◌}
use Rattle.model_graphs.specs.Facts.{shapes_of_facts}
use Rattle.model_operations.specs.Meanings.{int_meanings}
use Rattle.model_states.specs.Valid.{shapes_of}
use Rattle.plain_graphs.proofs.Steps.{shapes_from}
use Rattle.plain_graphs.proofs.shapes.node_shapes.Given as goal

abbrev pub invariant-loop-node : goal.invariant-loop-node
invariant-loop-node l =
    shapes_from int_meanings (shapes_of_facts l.buffers) l.nodes l.known.items l.node-index
    ≡ shapes_of int_meanings (shapes_of_facts l.buffers) l.nodes
