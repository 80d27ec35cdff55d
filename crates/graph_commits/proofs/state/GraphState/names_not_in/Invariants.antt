use Rattle.std.proofs.Common.{◌≡◌, ◌++◌, drop, filter, not}
use Rattle.model_graphs.specs.Facts.{specs_of}
use Rattle.model_states.specs.Edits.{has_node}
use Rattle.model_states.specs.Valid.{node_names}
use Rattle.graph_commits.proofs.state.GraphState.names_not_in.Given as goal

abbrev pub invariant-loop-index : goal.invariant-loop-index
invariant-loop-index g l =
    l.names.items ++ filter (λ name. not (has_node (specs_of l.other.nodes) name)) (node_names (specs_of (drop l.index l.nodes)))
    ≡ filter (λ name. not (has_node (specs_of l.other.nodes) name)) (node_names (specs_of l.nodes))
