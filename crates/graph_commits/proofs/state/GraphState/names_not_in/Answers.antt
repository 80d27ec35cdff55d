use Rattle.std.proofs.Common.{◌∙◌, ℕ, not, List, filter, ap, sym}
use Rattle.model_graphs.specs.Facts.{specs_of}
use Rattle.model_states.specs.Edits.{has_node}
use Rattle.model_states.specs.Valid.{node_names}
use Rattle.graph_commits.proofs.FilterLaws.{all_tested, skipped, taken}
use Rattle.graph_commits.proofs.state.GraphState.names_not_in.Goals as goal
use Rattle.graph_commits.proofs.state.GraphState.names_not_in.Goals.{else-not-has_near, then-not-has_near+in_ok-push}

pub loop-index-preserved : goal.loop-index-preserved
loop-index-preserved g c =
    let test = λ (name : List ℕ). not (has_node (specs_of c.args.other.now.nodes) name) in
    let nodes = c.nodes-nodes.result.now in
    elim c.if-not-has_near.branch [
      | then-not-has_near+in_ok-push w ↦
          taken test nodes c.loop-index.names.items (filter test (node_names (specs_of nodes))) c.loop-index.index c.loop-index.invariant
          c.if-not-has_near.names.items c.index-nodes-index.result c.loop-index-test.true (sym c.index-nodes-index.is)
          (ap not (sym c.has_near.ensures ∙ w.if-not-has_near.true)) (ap (λ names. names.items) w.names-is ∙ w.in_ok-push.ensures.items)
      | else-not-has_near w ↦
          skipped test nodes c.loop-index.names.items (filter test (node_names (specs_of nodes))) c.loop-index.index c.loop-index.invariant
          c.if-not-has_near.names.items c.index-nodes-index.result c.loop-index-test.true (sym c.index-nodes-index.is)
          (ap not (sym c.has_near.ensures ∙ w.if-not-has_near.false)) (ap (λ names. names.items) w.names-is)
    ]

pub returns : goal.returns
returns g c =
    let test = λ (name : List ℕ). not (has_node (specs_of c.args.other.now.nodes) name) in
    let nodes = c.nodes-nodes.result.now in
    all_tested test nodes c.loop-index.names.items (filter test (node_names (specs_of nodes))) c.loop-index.index c.loop-index.invariant
    c.loop-index-test.false
    ∙ ap (λ nodes. filter test (node_names (specs_of nodes))) c.nodes-nodes.ensures.nodes
