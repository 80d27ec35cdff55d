-- Sessions after edits of buffers, refused or made.
use Rattle.std.proofs.Common.{◌≡◌, Bool, List, Ok, Err, refl, ap, sym, subst, ◌∙◌}
use Rattle.root_tiles.specs.Chains.{ChainState, Leaves}
use Rattle.model_buffers.specs.declared.edit.BufferEdit.{BufferEdit}
use Rattle.model_buffers.specs.BufferEdit.{IsProperEdit, edit_refused, layout_with, written_by}
use Rattle.model_buffers.specs.Counts.{tiles_added}
use Rattle.model_buffers.specs.Table.{Table}
use Rattle.model_graphs.specs.declared.buffer.Edited.{Edited}
use Rattle.model_graphs.specs.Facts.{rectangles_of}
use Rattle.model_graphs.specs.Laws.{Distinguishes, IsBoxed, KeepsLaws}
use Rattle.model_graphs.specs.Meanings.{Meanings}
use Rattle.model_states.specs.Rectangles.{Rectangles}
use Rattle.model_sessions.specs.Sessions.{Session}
use Rattle.model_sessions.specs.Steps.{EditBuffer, after_step}
use Rattle.buffer_view.specs.BufferTables.{BufferTable, table_of}
use Rattle.session_states.specs.OverChains.{AreVersionsOver, tables_of, versions_names}
use Rattle.session_states.specs.Versions.{Versions}
use Rattle.commit_session.specs.Parts.{Parts, session_names}
use Rattle.commit_session.specs.Seen.{IsOver, IsSessionOf}
use Rattle.commit_session.specs.Edits.{Edits}
use Rattle.commit_session.specs.Refusals.{by_buffers}
use Rattle.commit_session.specs.Steps.{IsEditedBy, after_writing}
use Rattle.commit_session.proofs.Changed.{edited-now, final-left, recorded-is, over-edited, over-shown, shown-again}
use Rattle.buffer_view.proofs.Refusals.{exact-none}
use Rattle.buffer_view.specs.Edits.{EditsBuffers}
use Rattle.buffer_view.specs.declared.refused.BufferRefused.{BufferRefused}
use Rattle.commit_session.proofs.Acting.{acts-buffer}
use Rattle.commit_session.proofs.Kept.{IsKept}
use Rattle.commit_session.proofs.Passed.{as_session, edited-states}
use Rattle.commit_session.proofs.Working.{AreShownAgain, IsEdited}

-- room for one rectangle more changes none
pub reserved : {Op : Type 0} (parts now : Parts Op) (old new : List Edited) → new ≡ old → record parts { written = rectangles_of old } ≡ now
    → record parts { written = rectangles_of new } ≡ now
reserved {Op = Op} parts now old new items is = ap (λ (es : List Edited). let p : Parts Op = record parts { written = rectangles_of es } in p) items ∙ is

module _ {Op : Type 0} (same : Op → Op → Bool) (meanings : Meanings Op) where
  -- what an edit leaves that was made
  pub record IsMade (edit : BufferEdit) (now new : Parts Op) (s0 s1 : ChainState) : Type 0 where
    pub session : (session : Session Table Op) → IsSessionOf same meanings now s0.held session
        → IsSessionOf same meanings new s1.held (record session { history = after_step meanings session.history (EditBuffer edit) })
    pub over : IsOver same meanings new s1.held
    pub left : Leaves (tiles_added edit) (session_names now) (session_names new) s0 s1

  module _ (v now : Parts Op) (is : v ≡ now) (s0 s1 : ChainState) (requires : IsOver same meanings now s0.held) (edit : BufferEdit) (edited : Versions BufferTable)
      (states : edited ≡ record v.versions { working = edited.working })
      (leaves : Leaves (tiles_added edit) (versions_names v.versions) (versions_names edited) s0 s1)
      (tables : tables_of edited s1.held ≡ record (tables_of v.versions s0.held) { working = table_of edited.working s1.held })
      (versions : AreVersionsOver edited s1.held) where
    pub refused : AreShownAgain v.versions.working edited.working s0.held s1.held → IsKept same meanings (tiles_added edit) now (record v { versions = edited }) s0 s1
    refused again = record {
      session = shown-again same meanings v now is s0 s1 requires (tiles_added edit) edited states leaves tables versions again;
      over = over-shown same meanings v now is s0 s1 requires (tiles_added edit) edited states leaves tables versions again;
      left = final-left same meanings v now is s0 s1 requires (tiles_added edit) edited states leaves tables versions v.written;
    }

    -- what was written is recorded by the buffers as the edit shows them
    pub made : KeepsLaws meanings → IsBoxed meanings → Distinguishes same → (shown : BufferTable) (written : Rectangles) → IsProperEdit edit
        → IsEdited edit v.versions.working edited.working s0.held s1.held → shown ≡ edited.working
        → written ≡ after_writing v.written (written_by shown.layout edit) → IsMade edit now (record v { versions = edited; written = written }) s0 s1
    made laws boxed apart shown written proper done shown_is recorded =
        let by_old = recorded-is edit v.versions.working edited.working shown s0.held s1.held v.written written done shown_is recorded in
        record {
          session = edited-now same meanings v now is s0 s1 requires (tiles_added edit) edited states leaves tables versions edit written done by_old;
          over = over-edited same meanings v now is s0 s1 requires (tiles_added edit) edited states leaves tables versions laws boxed apart edit written proper done by_old;
          left = final-left same meanings v now is s0 s1 requires (tiles_added edit) edited states leaves tables versions written;
        }

    -- the buffers refused the edit
    pub edit-refused : {X : Type 0} (lower : BufferRefused) → EditsBuffers {X = X} edit (Err lower) v.versions.working edited.working s0 s1
        → Edits {X = X} same meanings (EditBuffer edit) (Err (by_buffers lower)) now (record v { versions = edited }) s0 s1
    edit-refused {X} lower done =
        let kept = refused (record { layout = done.layout; table = done.table }) in
        let here : EditsBuffers {X = X} edit (Err lower) now.versions.working edited.working s0 s1 =
        subst (λ (p : Parts Op). EditsBuffers {X = X} edit (Err lower) p.versions.working edited.working s0 s1) is done in
        record {
          edited = tt;
          unchanged = here.layout;
          unwritten = ap (λ (p : Parts Op). p.written) is;
          pending = ap (λ (p : Parts Op). p.pending) is;
          states = edited-states v now edited v.written is states;
          session = λ held of. tt;
          action = λ held of. tt;
          same = kept.session;
          exact = λ cause given other. ap as_session (here.exact cause given);
          cause = record { lower = lower; is = refl; by_cause = here.cause };
          over = kept.over;
          left = kept.left;
        }

    -- they made it, and what it wrote was recorded
    pub edit-made : {X : Type 0} (value : X) → KeepsLaws meanings → IsBoxed meanings → Distinguishes same → (shown : BufferTable) (written : Rectangles) → IsProperEdit edit
        → EditsBuffers edit (Ok value) v.versions.working edited.working s0 s1 → shown ≡ edited.working
        → written ≡ after_writing v.written (written_by shown.layout edit)
        → Edits same meanings (EditBuffer edit) (Ok value) now (record v { versions = edited; written = written }) s0 s1
    edit-made {X} value laws boxed apart shown written proper done shown_is recorded =
        let new : Parts Op = record v { versions = edited; written = written } in
        let table : IsEdited edit v.versions.working edited.working s0.held s1.held = record { carried_out = done.carried_out; layout = done.layout; table = done.table } in
        let by_old = recorded-is edit v.versions.working edited.working shown s0.held s1.held v.written written table shown_is recorded in
        let by = made laws boxed apart shown written proper table shown_is recorded in
        let parts : IsEditedBy edit now new = record {
          carried_out = ap (λ (p : Parts Op). edit_refused p.versions.working.layout edit) (sym is) ∙ done.carried_out;
          layout = done.layout ∙ ap (λ (p : Parts Op). layout_with p.versions.working.layout edit) is;
          written = by_old ∙ ap (λ (p : Parts Op). after_writing p.written (written_by p.versions.working.layout edit)) is;
          pending = ap (λ (p : Parts Op). p.pending) is;
        } in
        record {
          edited = parts;
          unchanged = tt;
          unwritten = tt;
          pending = tt;
          states = edited-states v now edited written is states;
          session = by.session;
          action = λ held of.
              acts-buffer same meanings held now.capacity (IsSessionOf same meanings new s1.held) laws boxed apart now new s0.held of edit parts (by.session held of);
          same = λ held of. tt;
          exact = λ cause given other. exact-none _ (edit_refused now.versions.working.layout edit) cause parts.carried_out given;
          cause = tt;
          over = by.over;
          left = by.left;
        }
