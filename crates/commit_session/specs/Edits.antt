-- Edits of sessions, as steps of a history.
use Rattle.std.specs.Prelude.{◌≡◌, ◌≢◌, ℕ, ◌++◌, ◌∷◌, [], Bool, Err, IfErr, None, OnErr, OnOk, Option, Result, Some}
use Rattle.chain_owners.specs.Counts.{Counts}
use Rattle.model_buffers.specs.declared.edit.BufferEdit.TheVariants as buffers
use Rattle.model_buffers.specs.declared.refused.EditRefused.{EditRefused}
use Rattle.model_buffers.specs.BufferEdit.{edit_refused}
use Rattle.model_buffers.specs.Counts.{tiles_added}
use Rattle.model_buffers.specs.Layout.{TableLayout}
use Rattle.model_buffers.specs.Table.{Table}
use Rattle.model_graphs.specs.Meanings.{Meanings}
use Rattle.model_sessions.specs.Sessions.{Make, Session, after_action}
use Rattle.model_sessions.specs.Steps.{Commit, EditBuffer, EditNode, HistoryEdit, Redo, Undo, after_step}
use Rattle.root_tiles.specs.Chains.{ChainState, Leaves}
use Rattle.buffer_view.specs.Causes.{HasEditCause}
use Rattle.buffer_view.specs.declared.refused.BufferRefused.TheVariants as buffer_refusals
use Rattle.commit_session.specs.declared.edit.Edit.{Edit}
use Rattle.commit_session.specs.declared.edit.Edit.TheVariants.{Copy, Create, Dup, Fill, Load, Node, Sub}
use Rattle.commit_session.specs.declared.edit.EditPart.{EditPart}
use Rattle.commit_session.specs.declared.edit.EditPart.TheVariants as parts
use Rattle.commit_session.specs.declared.refused.SessionRefused.{SessionRefused}
use Rattle.commit_session.specs.declared.refused.SessionRefused.TheVariants.{Buffer, NoMemory}
use Rattle.commit_session.specs.Parts.{Parts, session_names}
use Rattle.commit_session.specs.Refusals.{IsRefusedAs, by_buffers}
use Rattle.commit_session.specs.Seen.{IsOver, IsSessionOf}
use Rattle.commit_session.specs.Steps.{HasSameStates, IsEditedBy}

-- the step of a history that an edit makes
abbrev pub step_of : {Op : Type 0} → Edit Op → HistoryEdit Op
step_of (Create name format extent) = EditBuffer (buffers.Create name format extent)
step_of (Sub name parent rect) = EditBuffer (buffers.Sub name parent rect)
step_of (Dup name from) = EditBuffer (buffers.Duplicate name from)
step_of (Load name rect bytes) = EditBuffer (buffers.Put name rect bytes)
step_of (Fill name rect samples) = EditBuffer (buffers.Fill name rect samples)
step_of (Copy from to rect dx dy) = EditBuffer (buffers.Copy from to rect dx dy)
step_of (Node edit) = EditNode edit

abbrev pub step_of_part : {Op : Type 0} → EditPart Op → HistoryEdit Op
step_of_part (parts.Buffer edit) = EditBuffer edit
step_of_part (parts.Node edit) = EditNode edit

-- ---- refusals

-- why a step of edits is refused where memory suffices: an edit of nodes never is
abbrev pub step_refused : {Op : Type 0} → TableLayout → HistoryEdit Op → Option EditRefused
step_refused layout (EditBuffer edit) = edit_refused layout edit
step_refused layout (EditNode edit) = None
step_refused layout Commit = None
step_refused layout Undo = None
step_refused layout Redo = None

-- the causes of its refusals, where these are the chain's counts before and after
abbrev pub HasStepCause : {Op : Type 0} → TableLayout → HistoryEdit Op → Counts → Counts → SessionRefused → Type 0
HasStepCause layout (EditBuffer edit) old new refused = IsRefusedAs by_buffers (HasEditCause layout edit old new) refused
HasStepCause layout (EditNode edit) old new refused = refused ≡ NoMemory
HasStepCause layout Commit old new refused = refused ≡ NoMemory
HasStepCause layout Undo old new refused = refused ≡ NoMemory
HasStepCause layout Redo old new refused = refused ≡ NoMemory

-- how many tiles it may add
abbrev pub tiles_by : {Op : Type 0} → HistoryEdit Op → ℕ
tiles_by (EditBuffer edit) = tiles_added edit
tiles_by (EditNode edit) = 0
tiles_by Commit = 0
tiles_by Undo = 0
tiles_by Redo = 0

-- ---- what an edit leaves

-- a step of edits was made of what a session holds
abbrev pub IsMadeBy : {Op : Type 0} → HistoryEdit Op → Parts Op → Parts Op → Type 0
IsMadeBy (EditBuffer edit) old new = IsEditedBy edit old new
IsMadeBy (EditNode edit) old new = new ≡ record old { pending = old.pending ++ edit ∷ [] }
IsMadeBy Commit old new = ⊥
IsMadeBy Undo old new = ⊥
IsMadeBy Redo old new = ⊥

-- What an edit makes of what a session holds, and of its chain: it is carried out, or the session is unchanged.
pub record Edits {Op X : Type 0} (equal : Op → Op → Bool) (meanings : Meanings Op) (step : HistoryEdit Op) (result : Result X SessionRefused) (old new : Parts Op) (before after : ChainState) : Type 0 where
  -- the edit was made, and what it writes was recorded
  pub edited : OnOk result (IsMadeBy step old new)
  -- else the layout is as before, and so are the written rectangles and the pending edits
  pub unchanged : OnErr result (new.versions.working.layout ≡ old.versions.working.layout)
  pub unwritten : OnErr result (new.written ≡ old.written)
  pub pending : OnErr result (new.pending ≡ old.pending)
  -- the states and the cached pairs are as before, whatever it answers
  pub states : HasSameStates old new
  -- the session of the definitions that is held makes the step
  pub session : (held : Session Table Op) → IsSessionOf equal meanings old before.held held →
      OnOk result (IsSessionOf equal meanings new after.held (record held { history = after_step meanings held.history step }))
  -- which is an action of it
  pub action : (held : Session Table Op) → IsSessionOf equal meanings old before.held held →
      OnOk result (IsSessionOf equal meanings new after.held (after_action equal meanings old.capacity held (Make step)))
  -- or it is unchanged
  pub same : (held : Session Table Op) → IsSessionOf equal meanings old before.held held → OnErr result (IsSessionOf equal meanings new after.held held)
  -- what the layout refuses is refused by this cause, or since memory ran out
  pub exact : (cause : EditRefused) → step_refused old.versions.working.layout step ≡ Some cause → result ≢ Err NoMemory →
      result ≡ Err (Buffer (buffer_refusals.Edit cause))
  -- it is refused by the layout, by the swap, or where memory runs out
  pub cause : IfErr result (HasStepCause old.versions.working.layout step before.counts after.counts)
  -- the session is over its chain, which has at most a name more for each tile that the edit adds
  pub over : IsOver equal meanings new after.held
  pub left : Leaves (tiles_by step) (session_names old) (session_names new) before after
