-- What the steps of a session make of what it holds, without any sample.
use Rattle.std.specs.Prelude.{◌≡◌, ℕ, Bool, List, [], ◌∷◌, Ok, Err, Option, Result, Some, None}
use Rattle.plane_rect.specs.Rectangle.{Rectangle}
use Rattle.model_buffers.specs.declared.edit.BufferEdit.{BufferEdit}
use Rattle.model_buffers.specs.BufferEdit.{edit_refused, layout_with, written_by}
use Rattle.model_graphs.specs.Meanings.{Meanings}
use Rattle.model_states.specs.declared.refused.StateRefused.{StateRefused}
use Rattle.model_states.specs.Cache.{all_voided, itself, without_damaged}
use Rattle.model_states.specs.Commits.{change_to, committed}
use Rattle.model_states.specs.Damage.{damage}
use Rattle.model_states.specs.Rectangles.{Rectangles, with_written}
use Rattle.model_states.specs.History.{History, redone, undone}
use Rattle.model_sessions.specs.Steps as actions
use Rattle.model_sessions.specs.Steps.{HistoryEdit}
use Rattle.buffer_view.specs.BufferTables.{BufferTable}
use Rattle.model_states.specs.declared.direction.Direction.{Direction}
use Rattle.model_states.specs.declared.direction.Direction.TheVariants.{Redo, Undo}
use Rattle.model_states.specs.Directions.{by_direction, stepped}
use Rattle.session_states.specs.Versions.{after_commit, versions_after, versions_ahead}
use Rattle.commit_session.specs.Parts.{Parts, cached_pairs, working_facts}

-- rectangles of roots after at most one more was written
abbrev pub after_writing : Rectangles → Option (List ℕ × Rectangle) → Rectangles
after_writing written None = written
after_writing written (Some entry) = with_written written entry.0 entry.1

-- No edit is pending, nothing was written since the last state, the pairs that meet these damages of nodes are gone, and
-- nothing is counted.
pub record IsSettled {Op : Type 0} (damages : Rectangles) (old new : Parts Op) : Type 0 where
  pub pending : new.pending ≡ []
  pub written : new.written ≡ []
  pub pairs : cached_pairs new ≡ all_voided itself (cached_pairs old) damages
  pub capacity : new.capacity ≡ old.capacity
  pub applied : new.applied ≡ old.applied
  pub reused : new.reused ≡ old.reused

-- The working buffers and the pending edits were committed: what is voided is exactly what the damage of the change
-- meets.
pub record IsCommitted {Op : Type 0} (same : Op → Op → Bool) (meanings : Meanings Op) (old new : Parts Op) : Type 0 where
  pub damages : Rectangles
  pub graph : committed same meanings old.graph old.pending (working_facts old) old.written
      ≡ Ok (record { next = new.graph; delta = damages })
  pub versions : new.versions ≡ after_commit old.versions
  pub settled : IsSettled damages old new
  pub voided : cached_pairs new
      ≡ without_damaged itself (damage same meanings (change_to old.graph new.graph.latest old.written)) (cached_pairs old)

-- An undo or a redo was made, and the damage of its commit is voided.
pub record IsStepped {Op : Type 0} (direction : Direction) (old new : Parts Op) : Type 0 where
  pub damages : Rectangles
  pub graph : stepped direction old.graph ≡ Ok (record { next = new.graph; delta = damages })
  pub versions : (next : BufferTable) (rest : List BufferTable) → versions_ahead direction old.versions ≡ next ∷ rest →
      new.versions ≡ versions_after direction old.versions next rest
  pub settled : IsSettled damages old new

-- an undo or a redo, as an edit of a history
abbrev pub step_action : {Op : Type 0} → Direction → HistoryEdit Op
step_action Undo = actions.Undo
step_action Redo = actions.Redo

-- what it gives of a history
abbrev pub history_step : {Table Op : Type 0} → Direction → History Table Op → Result (History Table Op) StateRefused
history_step direction history = by_direction direction (undone history) (redone history)

-- An edit was made of the buffers that are edited, and what it writes was recorded.
pub record IsEditedBy {Op : Type 0} (edit : BufferEdit) (old new : Parts Op) : Type 0 where
  pub carried_out : edit_refused old.versions.working.layout edit ≡ None
  pub layout : new.versions.working.layout ≡ layout_with old.versions.working.layout edit
  pub written : new.written ≡ after_writing old.written (written_by old.versions.working.layout edit)
  pub pending : new.pending ≡ old.pending

-- All of it but the buffers that are edited is as before.
pub record HasSameStates {Op : Type 0} (old new : Parts Op) : Type 0 where
  pub latest : new.versions.latest ≡ old.versions.latest
  pub undoable : new.versions.undoable ≡ old.versions.undoable
  pub redoable : new.versions.redoable ≡ old.versions.redoable
  pub graph : new.graph ≡ old.graph
  pub entries : new.entries ≡ old.entries
  pub most : new.most ≡ old.most
  pub capacity : new.capacity ≡ old.capacity
  pub applied : new.applied ≡ old.applied
  pub reused : new.reused ≡ old.reused

-- What a step of a history gives isn't refused, and the next history has this property.
abbrev pub LeadsTo : {Next : Type 0} → Result Next StateRefused → (Next → Type 0) → Type 0
LeadsTo (Ok next) P = P next
LeadsTo (Err refused) P = ⊥
