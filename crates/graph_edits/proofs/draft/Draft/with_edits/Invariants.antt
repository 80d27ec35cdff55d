use Rattle.std.proofs.Common.{◌≡◌, drop, Ok}
use Rattle.model_graphs.specs.Facts.{shapes_of_facts}
use Rattle.model_states.specs.Edits.{with_edits}
use Rattle.graph_edits.proofs.draft.Draft.with_edits.Given as goal

abbrev pub invariant-loop-edit : goal.invariant-loop-edit
invariant-loop-edit g l =
    with_edits (shapes_of_facts l.buffers) (Ok l.draft) (drop l.edit-index l.edits)
    ≡ with_edits (shapes_of_facts l.buffers) (Ok l.initial.draft) l.edits
