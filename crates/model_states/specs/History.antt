-- The history of a graph: all committed states, and the rectangles that separate each from the one before it.
use Rattle.std.specs.Prelude.{◌≡◌, ℕ, ◌+◌, List, [], ◌∷◌, ◌++◌, Result, Ok, Err}
use Rattle.model_graphs.specs.Node.{Node}
use Rattle.model_graphs.specs.Shapes.{Shapes}
use Rattle.model_graphs.specs.Meanings.{Meanings}
use Rattle.model_states.specs.declared.refused.StateRefused.{StateRefused}
use Rattle.model_states.specs.Rectangles.{Rectangles}
use Rattle.model_states.specs.Retained.{Separated, Stepped}
use Rattle.model_states.specs.State.{State}
use Rattle.model_states.specs.Workspace as workspace
use Rattle.model_states.specs.Workspace.{Workspace, new_workspace}

-- a committed state, and the rectangles of roots that separate it from another one
abbrev pub Committed : Type 0 → Type 0 → Type 0
Committed Table Op = Separated (State Table Op) Rectangles

-- The workspace, the committed states before its last one, from the first on, and the rectangles that separate its last
-- one from the one before it.
pub record History (Table Op : Type 0) : Type 0 where
  pub workspace : Workspace Table Op Rectangles
  pub earlier : List (Committed Table Op)
  pub rectangles : Rectangles

-- the history of the state without nodes over a table
abbrev pub new_history : {Table Op : Type 0} → Table → History Table Op
new_history table = record { workspace = new_workspace table; earlier = []; rectangles = [] }

-- the last committed state
abbrev pub latest_of : {Table Op : Type 0} → History Table Op → Committed Table Op
latest_of history = record { state = history.workspace.retained.latest; delta = history.rectangles }

-- all committed states: that of number k is the k-th, counted from 0
abbrev pub committed_states : {Table Op : Type 0} → History Table Op → List (Committed Table Op)
committed_states history = history.earlier ++ latest_of history ∷ []

-- the number of the last one
abbrev pub number_of : {Table Op : Type 0} → History Table Op → ℕ
number_of history = history.workspace.retained.number

-- ---- steps: those of the workspace, each of which appends its state

-- the history after a step that leaves this
abbrev pub with_step : {Table Op : Type 0} → History Table Op → Stepped (Workspace Table Op Rectangles) Rectangles → History Table Op
with_step history stepped =
    record { workspace = stepped.next; earlier = committed_states history; rectangles = stepped.delta }

-- the same of what a step gives
abbrev pub appended : {Table Op : Type 0} → History Table Op → Result (Stepped (Workspace Table Op Rectangles) Rectangles) StateRefused → Result (History Table Op) StateRefused
appended history (Ok stepped) = Ok (with_step history stepped)
appended history (Err refused) = Err refused

-- the working table with these nodes is committed, separated by what was written
abbrev pub with_commit : {Table Op : Type 0} → History Table Op → List (Node Op) → History Table Op
with_commit history nodes =
    with_step history (workspace.commit_nodes history.workspace (λ state. history.workspace.written) nodes)

-- A commit: the pending edits are made over the buffers of the working table.
abbrev pub committed : {Table Op : Type 0} → Meanings Op → (Table → Shapes) → History Table Op → Result (History Table Op) StateRefused
committed meanings shapes history =
    appended history
    (workspace.committed meanings shapes (λ state. history.workspace.written) history.workspace)

abbrev pub undone : {Table Op : Type 0} → History Table Op → Result (History Table Op) StateRefused
undone history = appended history (workspace.undone history.workspace)

abbrev pub redone : {Table Op : Type 0} → History Table Op → Result (History Table Op) StateRefused
redone history = appended history (workspace.redone history.workspace)

-- ---- what a step does

-- the next history has one state more after those that were there, of the next number
pub record Appends {Table Op : Type 0} (history next : History Table Op) : Type 0 where
  pub states : committed_states next ≡ committed_states history ++ latest_of next ∷ []
  pub number : number_of next ≡ number_of history + 1

-- the last state of the next history is this one, separated from the one before it by these rectangles
pub record Returns {Table Op : Type 0} (earlier : State Table Op) (delta : Rectangles) (next : History Table Op) : Type 0 where
  pub state : next.workspace.retained.latest ≡ earlier
  pub rectangles : next.rectangles ≡ delta
