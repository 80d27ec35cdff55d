use Rattle.std.proofs.Common.{◌≡◌, []}
use Rattle.model_graphs.specs.Facts.{shapes_of_facts}
use Rattle.model_operations.specs.Meanings.{int_meanings}
use Rattle.model_states.specs.Edits.{steps_refused}
use Rattle.model_states.specs.Valid.{steps_of}
use Rattle.plain_graphs.proofs.Steps.{steps_from}
use Rattle.plain_graphs.proofs.walk.walk_refused.Given as goal

abbrev pub invariant-loop-node : goal.invariant-loop-node
invariant-loop-node l =
    steps_refused int_meanings (shapes_of_facts l.buffers) l.known.items (steps_from l.nodes l.node-index)
    ≡ steps_refused int_meanings (shapes_of_facts l.buffers) [] (steps_of l.nodes)
