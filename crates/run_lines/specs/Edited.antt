-- Edits of a session's buffers.
use Rattle.std.specs.Prelude.{◌≡◌, ◌≢◌, Some, None, Result, Ok, Err, IfErr}
use Rattle.std.specs.Option.{is_some}
use Rattle.std.specs.Result.{OnOk}
use Rattle.buffer_view.specs.Causes.{HasEditCause}
use Rattle.buffer_view.specs.declared.refused.BufferRefused.TheVariants as buffer_refusals
use Rattle.chain_owners.specs.Counts.{Counts, Grows}
use Rattle.chain_owners.specs.Held.{Held}
use Rattle.commit_session.specs.Parts.{Parts}
use Rattle.commit_session.specs.Refusals.{IsRefusedAs, by_buffers}
use Rattle.commit_session.specs.Seen.{IsSessionOf}
use Rattle.commit_session.specs.declared.refused.SessionRefused.{SessionRefused}
use Rattle.commit_session.specs.declared.refused.SessionRefused.TheVariants.{Buffer, NoMemory}
use Rattle.model_buffers.specs.BufferEdit.{edit_refused}
use Rattle.model_buffers.specs.Counts.{tiles_added}
use Rattle.model_buffers.specs.Layout.{TableLayout}
use Rattle.model_buffers.specs.Table.{Table}
use Rattle.model_buffers.specs.declared.edit.BufferEdit.{BufferEdit}
use Rattle.model_buffers.specs.declared.refused.EditRefused.{EditRefused}
use Rattle.model_operations.specs.Meanings.{int_meanings, same_operation}
use Rattle.model_operations.specs.declared.operation.IntOp.{IntOp}
use Rattle.model_sessions.specs.Sessions.{Session}
use Rattle.model_sessions.specs.Steps.{EditBuffer, HistoryEdit, after_step}

abbrev pub IsHeld : Parts IntOp → Held → Session Table IntOp → Type 0
IsHeld parts held session = IsSessionOf same_operation int_meanings parts held session

-- the session after a step of its history that appends no state
abbrev pub stepped : Session Table IntOp → HistoryEdit IntOp → Session Table IntOp
stepped session step = record session { history = after_step int_meanings session.history step }

-- a session over a chain, with the counts of the chain
pub record SessionOver : Type 0 where
  pub parts : Parts IntOp
  pub held : Held
  pub counts : Counts

abbrev pub layout_in : SessionOver → TableLayout
layout_in over = over.parts.versions.working.layout

-- whether a call is refused, whatever it gives else
abbrev pub done : {A : Type 0} → Result A SessionRefused → Result (Unit {0}) SessionRefused
done (Ok value) = Ok tt
done (Err refused) = Err refused

-- What an edit of a session's buffers did.
pub record IsEdited (edit : BufferEdit) (result : Result (Unit {0}) SessionRefused) (old new : SessionOver) : Type 0 where
  pub carried_out : OnOk result (edit_refused (layout_in old) edit ≡ None)
  pub session : (before : Session Table IntOp) → IsHeld old.parts old.held before → OnOk result (IsHeld new.parts new.held (stepped before (EditBuffer edit)))
  pub exact : (refused : EditRefused) → edit_refused (layout_in old) edit ≡ Some refused → result ≢ Err NoMemory → result ≡ Err (Buffer (buffer_refusals.Edit refused))
  pub cause : IfErr result (IsRefusedAs by_buffers (HasEditCause (layout_in old) edit old.counts new.counts))
  pub capacity : new.parts.capacity ≡ old.parts.capacity
  pub content : is_some new.held.content ≡ is_some old.held.content
  pub counts : Grows (tiles_added edit) old.counts new.counts
