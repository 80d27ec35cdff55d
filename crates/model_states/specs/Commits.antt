-- A graph: the states that it retains, with the damage that separates them.
use Rattle.std.specs.Prelude.{List, [], Result, Ok, Err}
use Rattle.std.specs.Prelude.{Bool}
use Rattle.model_graphs.specs.declared.node.NodeEdit.{NodeEdit}
use Rattle.model_graphs.specs.Facts.{Facts, shapes_of_facts, specs_of}
use Rattle.model_graphs.specs.Node.{Node}
use Rattle.model_graphs.specs.Meanings.{Meanings}
use Rattle.model_states.specs.declared.refused.StateRefused.{StateRefused}
use Rattle.model_states.specs.Damage.{Change, Side, damage_list}
use Rattle.model_states.specs.Edits.{edited}
use Rattle.model_states.specs.Rectangles.{Rectangles}
use Rattle.model_states.specs.Retained.{Retained, Stepped, retained_from, unless_last, with_commit}
use Rattle.model_states.specs.Valid.{stated}

-- States of nodes over buffers, and between them the damage of each node. Its undo and its redo are those of what is
-- retained.
abbrev pub Graph : Type 0 → Type 0
Graph Op = Retained (Side Op) Rectangles

-- the graph without a node
abbrev pub new_graph : {Op : Type 0} → Graph Op
new_graph = retained_from (record { buffers = []; nodes = [] })

-- nodes over buffers, with the boxes and formats that they have
abbrev pub side_of : {Op : Type 0} → Meanings Op → Facts → List (Node Op) → Side Op
side_of meanings buffers nodes =
    record { buffers = buffers; nodes = stated meanings (shapes_of_facts buffers) nodes }

-- the change from the last state to the next one
abbrev pub change_to : {Op : Type 0} → Graph Op → Side Op → Rectangles → Change Op
change_to graph next written = record { old = graph.latest; new = next; rectangles = written }

-- a state is committed
abbrev pub commit_side : {Op : Type 0} → (Op → Op → Bool) → Meanings Op → Graph Op → Side Op → Rectangles → Stepped (Graph Op) Rectangles
commit_side same meanings graph next written =
    let damage = damage_list same meanings (change_to graph next written) in
    record { next = with_commit graph next damage; delta = damage }

abbrev pub commit_nodes : {Op : Type 0} → (Op → Op → Bool) → Meanings Op → Graph Op → Facts → Rectangles → Result (List (Node Op)) StateRefused → Result (Stepped (Graph Op) Rectangles) StateRefused
commit_nodes same meanings graph buffers written (Ok nodes) =
    Ok (commit_side same meanings graph (side_of meanings buffers nodes) written)
commit_nodes same meanings graph buffers written (Err refused) = Err refused

-- A commit: edits are made over these buffers, to whose roots these rectangles were written.
abbrev pub committed : {Op : Type 0} → (Op → Op → Bool) → Meanings Op → Graph Op → List (NodeEdit Op) → Facts → Rectangles → Result (Stepped (Graph Op) Rectangles) StateRefused
committed same meanings graph edits buffers written =
    unless_last graph.number
    (commit_nodes same meanings graph buffers written
    (edited meanings (shapes_of_facts buffers) (specs_of graph.latest.nodes) edits))
