-- What holds of histories.
use Rattle.std.specs.Prelude.{◌≡◌, ℕ, suc, ⊤, List, [], ◌∷◌, length, slice_get, Some}
use Rattle.std.specs.List.{AllByRecursion}
use Rattle.model_buffers.specs.Table.{IsTable, Table}
use Rattle.model_graphs.specs.Meanings.{Meanings}
use Rattle.model_states.specs.Commits.{side_of}
use Rattle.model_states.specs.Damage.{Change, Side}
use Rattle.model_states.specs.History.{Committed, History, committed_states, number_of}
use Rattle.model_states.specs.Neighbors.{AreNeighbors}
use Rattle.model_states.specs.Rectangles.{Rectangles}
use Rattle.model_states.specs.Retained.{AreFew}
use Rattle.model_states.specs.State.{Scene, State}
use Rattle.model_states.specs.Valid.{AreValid}
use Rattle.model_sessions.specs.Tables.{Continues, table_facts, table_images, table_shapes}

-- a state as its nodes read it
abbrev pub scene_of : {Op : Type 0} → State Table Op → Scene Op
scene_of state = record { table = table_images state.table; nodes = state.nodes }

-- the last committed state
abbrev pub last_state : {Op : Type 0} → History Table Op → State Table Op
last_state history = history.workspace.retained.latest

-- what a graph knows of a state
abbrev pub side_of_state : {Op : Type 0} → Meanings Op → State Table Op → Side Op
side_of_state meanings state = side_of meanings (table_facts state.table) state.nodes

-- from one state to another, which these rectangles separate
abbrev pub change_between : {Op : Type 0} → Meanings Op → State Table Op → State Table Op → Rectangles → Change Op
change_between meanings old new rectangles =
    record { old = side_of_state meanings old; new = side_of_state meanings new; rectangles = rectangles }

-- a table, and valid nodes over it
pub record IsValidState {Op : Type 0} (meanings : Meanings Op) (state : State Table Op) : Type 0 where
  pub table : IsTable state.table
  pub nodes : AreValid meanings (table_shapes state.table) state.nodes

-- two tables are neighbors with rectangles
abbrev pub AreTablesSeparated : Table → Table → Rectangles → Type 0
AreTablesSeparated before after rectangles =
    AreNeighbors (table_facts before) (table_facts after) (table_images before) (table_images after) rectangles

-- the tables of two states are neighbors with the rectangles that the second carries
abbrev pub AreSeparated : {Op : Type 0} → Committed Table Op → Committed Table Op → Type 0
AreSeparated before after = AreTablesSeparated before.state.table after.state.table after.delta

-- so each state of a list and the next
abbrev pub AreInTurn : {Op : Type 0} → List (Committed Table Op) → Type 0
AreInTurn {Op} states =
    (k : ℕ) (before after : Committed Table Op) →
    slice_get states k ≡ Some before → slice_get states (suc k) ≡ Some after → AreSeparated before after

-- Each of these states is valid, and its table is a neighbor, with the rectangles that it carries, of the table of the
-- state before it in the list, the first one's of another state.
abbrev pub IsTrail : {Op : Type 0} → Meanings Op → State Table Op → List (Committed Table Op) → Type 0
IsTrail meanings state [] = ⊤
IsTrail meanings state (next ∷ rest) =
    IsValidState meanings next.state
    × AreTablesSeparated state.table next.state.table next.delta
    × IsTrail meanings next.state rest

-- A history: what is committed is valid and stands in turn, the last state's number is its position, the working table
-- is a table and continues the last state's with what was written, and what can be undone, and redone, leads away from
-- the last state.
pub record IsHistory {Op : Type 0} (meanings : Meanings Op) (history : History Table Op) : Type 0 where
  pub states : AllByRecursion (λ (committed : Committed Table Op). IsValidState meanings committed.state) (committed_states history)
  pub in_turn : AreInTurn (committed_states history)
  pub number : number_of history ≡ length history.earlier
  pub working : IsTable history.workspace.working
  pub continued : Continues (last_state history).table history.workspace.written history.workspace.working
  pub undoable : IsTrail meanings (last_state history) history.workspace.retained.undoable
  pub redoable : IsTrail meanings (last_state history) history.workspace.retained.redoable
  pub few : AreFew history.workspace.retained

-- from the last state of a history to that of a later one, with the rectangles that this one carries
abbrev pub change_to : {Op : Type 0} → Meanings Op → History Table Op → History Table Op → Change Op
change_to meanings before after =
    change_between meanings (last_state before) (last_state after) after.rectangles
