use Rattle.std.proofs.Common.{◌≡◌, drop, Ok}
use Rattle.model_graphs.specs.Facts.{shapes_of_facts}
use Rattle.model_states.specs.Edits.{with_edits}
use Rattle.plain_graphs.proofs.edits.with_edits.Given as goal

abbrev pub invariant-loop-edit : goal.invariant-loop-edit
invariant-loop-edit l =
    with_edits (shapes_of_facts l.buffers) (Ok l.nodes.items) (drop l.edit-index l.edits)
    ≡ with_edits (shapes_of_facts l.buffers) (Ok l.initial.nodes.items) l.edits
