-- A commit of a graph is one of the history that is held.
use Rattle.std.proofs.Common.{◌≡◌, ℕ, Bool, true, false, cond, List, refl, sym, ap, subst, ◌∙◌, Result, Ok, Err}
use Rattle.std.specs.Prelude.{◌==◌}
use Rattle.model_buffers.specs.Table.{Table}
use Rattle.model_graphs.specs.declared.node.NodeEdit.{NodeEdit}
use Rattle.model_graphs.specs.Facts.{Facts, shapes_of_facts, specs_of}
use Rattle.model_graphs.specs.Meanings.{Meanings}
use Rattle.model_graphs.specs.Node.{Node}
use Rattle.model_graphs.specs.Shapes.{Shapes}
use Rattle.model_states.specs.declared.refused.StateRefused.{StateRefused}
use Rattle.model_states.specs.declared.refused.StateRefused.TheVariants.{TooManyCommits}
use Rattle.model_states.specs.Commits.{Graph, commit_nodes, commit_side, committed, side_of}
use Rattle.model_states.specs.Edits.{edited}
use Rattle.model_states.specs.History as history
use Rattle.model_states.specs.History.{History, appended}
use Rattle.model_states.specs.Rectangles.{Rectangles}
use Rattle.model_states.specs.Retained.{Stepped, last_number}
use Rattle.model_states.specs.Workspace as workspace
use Rattle.model_states.specs.Workspace.{Workspace}
use Rattle.model_sessions.specs.Tables.{table_shapes}

abbrev GraphStep : Type 0 → Type 0
GraphStep Op = Stepped (Graph Op) Rectangles

module _ {Op : Type 0} (same : Op → Op → Bool) (meanings : Meanings Op) (graph : Graph Op) (facts : Facts) (past : History Table Op) where
  space : Workspace Table Op Rectangles
  space = past.workspace

  -- nodes that are committed by both
  pub record CommitsNodes (nodes : List (Node Op)) (stepped : GraphStep Op) (result : Result (History Table Op) StateRefused) : Type 0 where
    pub graph_is : stepped ≡ commit_side same meanings graph (side_of meanings facts nodes) past.workspace.written
    pub history_is : result ≡ Ok (history.with_commit past nodes)

  pub record CommitsBoth (stepped : GraphStep Op) (result : Result (History Table Op) StateRefused) : Type 0 where
    pub nodes : List (Node Op)
    pub both : CommitsNodes nodes stepped result

  abbrev of_graph : Bool → Result (List (Node Op)) StateRefused → Result (GraphStep Op) StateRefused
  of_graph last nodes = cond last (Err TooManyCommits) (commit_nodes same meanings graph facts past.workspace.written nodes)

  abbrev of_history : Bool → Result (List (Node Op)) StateRefused → Result (History Table Op) StateRefused
  of_history last nodes =
      appended past (cond last (Err TooManyCommits) (workspace.commit_edited past.workspace (λ state. past.workspace.written) nodes))

  both-commit : (last : Bool) (nodes : Result (List (Node Op)) StateRefused) (stepped : GraphStep Op) → of_graph last nodes ≡ Ok stepped → CommitsBoth stepped (of_history last nodes)
  both-commit true nodes stepped is = absurd (cc)
  both-commit false (Err refused) stepped is = absurd (cc)
  both-commit false (Ok nodes) stepped is = record { nodes = nodes; both = record { graph_is = cc; history_is = refl } }

  both-refuse : (last : Bool) (nodes : Result (List (Node Op)) StateRefused) (refused : StateRefused) → of_graph last nodes ≡ Err refused → of_history last nodes ≡ Err refused
  both-refuse true nodes refused is = cc
  both-refuse false (Err cause) refused is = cc
  both-refuse false (Ok nodes) refused is = absurd (cc)

  -- the history's edits are the graph's
  module _ (edits : List (NodeEdit Op)) (number : past.workspace.retained.number ≡ graph.number)
      (shapes : table_shapes past.workspace.working ≡ shapes_of_facts facts) (nodes : specs_of graph.latest.nodes ≡ past.workspace.retained.latest.nodes)
      (pending : past.workspace.pending ≡ edits) where
    abbrev made : Result (List (Node Op)) StateRefused
    made = edited meanings (shapes_of_facts facts) (specs_of graph.latest.nodes) edits

    made-same : edited meanings (table_shapes past.workspace.working) past.workspace.retained.latest.nodes past.workspace.pending ≡ made
    made-same =
        ap (λ (s : Shapes). edited meanings s past.workspace.retained.latest.nodes past.workspace.pending) shapes
        ∙ ap (λ (ns : List (Node Op)). edited meanings (shapes_of_facts facts) ns past.workspace.pending) (sym nodes)
        ∙ ap (λ (es : List (NodeEdit Op)). edited meanings (shapes_of_facts facts) (specs_of graph.latest.nodes) es) pending

    history-same : history.committed meanings table_shapes past ≡ of_history (graph.number == last_number) made
    history-same =
        ap (λ (n : ℕ). of_history (n == last_number) (edited meanings (table_shapes past.workspace.working) past.workspace.retained.latest.nodes past.workspace.pending)) number
        ∙ ap (of_history (graph.number == last_number)) made-same

    pub commit-both : (stepped : GraphStep Op) → committed same meanings graph edits facts past.workspace.written ≡ Ok stepped
        → CommitsBoth stepped (history.committed meanings table_shapes past)
    commit-both stepped is =
        subst (CommitsBoth stepped) (sym history-same) (both-commit (graph.number == last_number) made stepped is)

    pub commit-refused : (refused : StateRefused) → committed same meanings graph edits facts past.workspace.written ≡ Err refused
        → history.committed meanings table_shapes past ≡ Err refused
    commit-refused refused is = history-same ∙ both-refuse (graph.number == last_number) made refused is
