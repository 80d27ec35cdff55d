-- What an editor holds: the buffers as they are edited, the pending edits of nodes, and what is retained of the states.
use Rattle.std.specs.Prelude.{ℕ, List, [], ◌∷◌, ◌++◌, Result, Ok, Err}
use Rattle.plane_rect.specs.Rectangle.{Rectangle}
use Rattle.model_graphs.specs.declared.node.NodeEdit.{NodeEdit}
use Rattle.model_graphs.specs.Node.{Node}
use Rattle.model_graphs.specs.Shapes.{Shapes}
use Rattle.model_graphs.specs.Meanings.{Meanings}
use Rattle.model_states.specs.declared.refused.StateRefused.{StateRefused}
use Rattle.model_states.specs.Edits.{edited}
use Rattle.model_states.specs.Rectangles.{Rectangles, with_written}
use Rattle.model_states.specs.Retained as retained
use Rattle.model_states.specs.Retained.{Retained, Stepped, retained_from, unless_last}
use Rattle.model_states.specs.State.{State}

-- The table as it is edited, the pending edits of nodes, and the rectangles written since the last state.
pub record Workspace (Table Op Delta : Type 0) : Type 0 where
  pub working : Table
  pub pending : List (NodeEdit Op)
  pub written : Rectangles
  pub retained : Retained (State Table Op) Delta

-- the state without nodes over a table
abbrev pub new_workspace : {Table Op Delta : Type 0} → Table → Workspace Table Op Delta
new_workspace table =
    record {
      working = table;
      pending = [];
      written = [];
      retained = retained_from (record { table = table; nodes = [] });
    }

-- ---- edits

-- another table, where a rectangle of a root buffer was written
abbrev pub with_table : {Table Op Delta : Type 0} → Workspace Table Op Delta → Table → List ℕ → Rectangle → Workspace Table Op Delta
with_table workspace table root rectangle =
    record workspace { working = table; written = with_written workspace.written root rectangle }

-- an edit of nodes is pending after the others
abbrev pub with_pending : {Table Op Delta : Type 0} → Workspace Table Op Delta → NodeEdit Op → Workspace Table Op Delta
with_pending workspace edit = record workspace { pending = workspace.pending ++ edit ∷ [] }

-- ---- steps: each drops the edits that are not committed, or is refused and changes nothing

-- the workspace of states, whose table is that of the last one
abbrev pub settled : {Table Op Delta : Type 0} → Retained (State Table Op) Delta → Workspace Table Op Delta
settled states = record { working = states.latest.table; pending = []; written = []; retained = states }

-- the same of what a step gives
abbrev pub settled_step : {Table Op Delta : Type 0} → Result (Stepped (Retained (State Table Op) Delta) Delta) StateRefused → Result (Stepped (Workspace Table Op Delta) Delta) StateRefused
settled_step (Ok stepped) = Ok (record { next = settled stepped.next; delta = stepped.delta })
settled_step (Err refused) = Err refused

-- the working table with these nodes is the next state, separated by a delta from the last one
abbrev pub commit_nodes : {Table Op Delta : Type 0} → Workspace Table Op Delta → (State Table Op → Delta) → List (Node Op) → Stepped (Workspace Table Op Delta) Delta
commit_nodes {Table} {Op} workspace delta nodes =
    let state : State Table Op = record { table = workspace.working; nodes = nodes } in
    record { next = settled (retained.with_commit workspace.retained state (delta state)); delta = delta state }

abbrev pub commit_edited : {Table Op Delta : Type 0} → Workspace Table Op Delta → (State Table Op → Delta) → Result (List (Node Op)) StateRefused → Result (Stepped (Workspace Table Op Delta) Delta) StateRefused
commit_edited workspace delta (Ok nodes) = Ok (commit_nodes workspace delta nodes)
commit_edited workspace delta (Err refused) = Err refused

-- A commit: the pending edits are made over the buffers of the working table, whose shapes are known.
abbrev pub committed : {Table Op Delta : Type 0} → Meanings Op → (Table → Shapes) → (State Table Op → Delta) → Workspace Table Op Delta → Result (Stepped (Workspace Table Op Delta) Delta) StateRefused
committed meanings shapes delta workspace =
    unless_last workspace.retained.number
    (commit_edited workspace delta
    (edited meanings (shapes workspace.working) workspace.retained.latest.nodes workspace.pending))

abbrev pub undone : {Table Op Delta : Type 0} → Workspace Table Op Delta → Result (Stepped (Workspace Table Op Delta) Delta) StateRefused
undone workspace = settled_step (retained.undone workspace.retained)

abbrev pub redone : {Table Op Delta : Type 0} → Workspace Table Op Delta → Result (Stepped (Workspace Table Op Delta) Delta) StateRefused
redone workspace = settled_step (retained.redone workspace.retained)
