-- The steps by which a workspace and its history grow. One that is refused leaves them as they are.
use Rattle.std.specs.Prelude.{ℕ, ⊤, List, [], ◌∷◌, fold, Option, Some, None, Ok, Err}
use Rattle.std.specs.List.{AllByRecursion}
use Rattle.std.specs.Result.{result_unwrap_or}
use Rattle.plane_rect.specs.Rectangle.{Rectangle}
use Rattle.model_buffers.specs.declared.edit.BufferEdit.{BufferEdit}
use Rattle.model_buffers.specs.BufferEdit.{IsProperEdit, written_by}
use Rattle.model_buffers.specs.Edits.{Edited, edited_table}
use Rattle.model_buffers.specs.Table.{Table, layout_of, no_buffers}
use Rattle.model_graphs.specs.declared.node.NodeEdit.{NodeEdit}
use Rattle.model_graphs.specs.Meanings.{Meanings}
use Rattle.model_states.specs.History.{History, committed, new_history, redone, undone}
use Rattle.model_states.specs.Rectangles.{Rectangles}
use Rattle.model_states.specs.Workspace.{Workspace, with_pending, with_table}
use Rattle.model_sessions.specs.Tables.{table_shapes}

-- ---- edits of buffers

-- the rectangles of at most one root
abbrev pub only : Option (List ℕ × Rectangle) → Rectangles
only None = []
only (Some entry) = entry ∷ []

-- what an edit writes, as rectangles of roots
abbrev pub rectangles_by : Table → BufferEdit → Rectangles
rectangles_by table edit = only (written_by (layout_of table) edit)

-- the workspace with another working table, and what was written to it
abbrev pub with_working : {Op Delta : Type 0} → Workspace Table Op Delta → Table → Option (List ℕ × Rectangle) → Workspace Table Op Delta
with_working workspace table None = record workspace { working = table }
with_working workspace table (Some written) = with_table workspace table written.0 written.1

-- the workspace after an edit that gives this
abbrev pub with_edit : {Op Delta : Type 0} → Workspace Table Op Delta → BufferEdit → Edited → Workspace Table Op Delta
with_edit workspace edit (Ok table) = with_working workspace table (written_by (layout_of workspace.working) edit)
with_edit workspace edit (Err refused) = workspace

-- The workspace after an edit of a buffer.
abbrev pub after_edit : {Op Delta : Type 0} → Workspace Table Op Delta → BufferEdit → Workspace Table Op Delta
after_edit workspace edit = with_edit workspace edit (edited_table workspace.working edit)

-- ---- steps

pub data HistoryEdit (Op : Type 0) : Type 0 where
  EditBuffer : BufferEdit → HistoryEdit Op
  EditNode : NodeEdit Op → HistoryEdit Op
  Commit : HistoryEdit Op
  Undo : HistoryEdit Op
  Redo : HistoryEdit Op

abbrev pub IsProper : {Op : Type 0} → HistoryEdit Op → Type 0
IsProper (EditBuffer edit) = IsProperEdit edit
IsProper (EditNode edit) = ⊤
IsProper Commit = ⊤
IsProper Undo = ⊤
IsProper Redo = ⊤

-- the history of the same states with another workspace
abbrev pub with_workspace : {Op : Type 0} → History Table Op → Workspace Table Op Rectangles → History Table Op
with_workspace history workspace = record history { workspace = workspace }

-- the history after a step
abbrev pub after_step : {Op : Type 0} → Meanings Op → History Table Op → HistoryEdit Op → History Table Op
after_step meanings history (EditBuffer edit) = with_workspace history (after_edit history.workspace edit)
after_step meanings history (EditNode edit) = with_workspace history (with_pending history.workspace edit)
after_step meanings history Commit = result_unwrap_or (committed meanings table_shapes history) history
after_step meanings history Undo = result_unwrap_or (undone history) history
after_step meanings history Redo = result_unwrap_or (redone history) history

-- The history that steps make, from the one without buffers and nodes on.
abbrev pub made_by : {Op : Type 0} → Meanings Op → List (HistoryEdit Op) → History Table Op
made_by meanings steps = fold (after_step meanings) (new_history no_buffers) steps

abbrev pub AreProper : {Op : Type 0} → List (HistoryEdit Op) → Type 0
AreProper {Op} steps = AllByRecursion (λ (step : HistoryEdit Op). IsProper step) steps
