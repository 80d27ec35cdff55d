-- What lower calls answer, as a session answers it, and sessions that are unchanged.
use Rattle.std.proofs.Common.{◌≡◌, Bool, length, Result, Ok, Err, ap, subst, sym, refl, ◌∙◌, arith}
use Rattle.std.specs.Prelude.{IfErr, IfOk}
use Rattle.std.specs.Map.{values_of}
use Rattle.chain_owners.proofs.Growing.{grows-more, grows-same}
use Rattle.chain_owners.proofs.Ownership.{respects-same}
use Rattle.model_buffers.specs.Counts.{tiles_added}
use Rattle.model_buffers.specs.Table.{Table}
use Rattle.model_buffers.specs.declared.edit.BufferEdit.{BufferEdit}
use Rattle.model_graphs.specs.Meanings.{Meanings}
use Rattle.model_sessions.specs.Sessions.{Session}
use Rattle.model_sessions.specs.Steps.{EditBuffer}
use Rattle.model_states.specs.Rectangles.{Rectangles}
use Rattle.root_tiles.specs.Chains.{ChainState}
use Rattle.buffer_view.specs.declared.refused.BufferRefused.{BufferRefused}
use Rattle.buffer_view.specs.declared.refused.BufferRefused.TheVariants as buffers
use Rattle.buffer_view.specs.BufferTables.{BufferTable}
use Rattle.session_states.specs.Versions.{Versions}
use Rattle.graph_edits.specs.Refusals.{IsRefusalOf}
use Rattle.commit_session.specs.Commits.{Commits, StateStep}
use Rattle.commit_session.specs.Edits.{Edits}
use Rattle.commit_session.specs.Parts.{Parts, session_names}
use Rattle.commit_session.specs.Refusals.{IsRefusedAs, by_buffers, by_graph}
use Rattle.commit_session.specs.Seen.{IsOver, IsSessionOf}
use Rattle.commit_session.specs.Steps.{HasSameStates}
use Rattle.commit_session.specs.declared.refused.SessionRefused.{SessionRefused}
use Rattle.commit_session.specs.declared.refused.SessionRefused.TheVariants.{NoMemory}
use Rattle.commit_session.proofs.Changed.{leaves-nothing}
use Rattle.commit_session.proofs.Kept.{IsKept}

-- ---- what calls on buffers answer

abbrev pub as_session : {X : Type 0} → Result X BufferRefused → Result X SessionRefused
as_session (Ok value) = Ok value
as_session (Err lower) = Err (by_buffers lower)

pub ok-as : {X : Type 0} (result : Result X BufferRefused) (P : X → Type 0) → IfOk result P → IfOk (as_session result) P
ok-as (Ok value) P holds = holds
ok-as (Err lower) P holds = tt

pub cause-as : {X : Type 0} (result : Result X BufferRefused) (P : BufferRefused → Type 0) → IfErr result P → IfErr (as_session result) (IsRefusedAs by_buffers P)
cause-as (Ok value) P holds = tt
cause-as (Err lower) P holds = record { lower = lower; is = refl; by_cause = holds }

module _ {Op : Type 0} where
  -- sessions in which other buffers are edited
  pub edited-states : (v now : Parts Op) (edited : Versions BufferTable) (written : Rectangles) → v ≡ now → edited ≡ record v.versions { working = edited.working }
      → HasSameStates now (record v { versions = edited; written = written })
  edited-states v now edited written is states = record {
    latest = ap (λ (x : Versions BufferTable). x.latest) states ∙ ap (λ (p : Parts Op). p.versions.latest) is;
    undoable = ap (λ (x : Versions BufferTable). x.undoable) states ∙ ap (λ (p : Parts Op). p.versions.undoable) is;
    redoable = ap (λ (x : Versions BufferTable). x.redoable) states ∙ ap (λ (p : Parts Op). p.versions.redoable) is;
    graph = ap (λ (p : Parts Op). p.graph) is;
    entries = ap (λ (p : Parts Op). p.entries) is;
    most = ap (λ (p : Parts Op). p.most) is;
    capacity = ap (λ (p : Parts Op). p.capacity) is;
    applied = ap (λ (p : Parts Op). p.applied) is;
    reused = ap (λ (p : Parts Op). p.reused) is;
  }

  module _ (same : Op → Op → Bool) (meanings : Meanings Op) where
    -- there was no memory for an edit of buffers
    pub unedited : {X : Type 0} (edit : BufferEdit) (now new : Parts Op) (state : ChainState) → new ≡ now → IsOver same meanings now state.held
        → Edits {X = X} same meanings (EditBuffer edit) (Err NoMemory) now new state state
    unedited {X} edit now new state is over = subst (λ (p : Parts Op). Edits {X = X} same meanings (EditBuffer edit) (Err NoMemory) now p state state) (sym is) (record {
      edited = tt;
      unchanged = refl;
      unwritten = refl;
      pending = refl;
      states = record { latest = refl; undoable = refl; redoable = refl; graph = refl; entries = refl; most = refl; capacity = refl; applied = refl; reused = refl };
      session = λ held of. tt;
      action = λ held of. tt;
      same = λ held of. of;
      exact = λ cause given other. absurd (other refl);
      cause = record { lower = buffers.NoMemory; is = refl; by_cause = tt };
      over = over;
      left = record {
        others = respects-same state.held (session_names now);
        counts = grows-more 0 (tiles_added edit) state.counts state.counts (omega arith) (grows-same state.counts);
        loans = refl;
        valid = λ valid. valid;
      };
    })

    -- ---- commits, undos and redos

    -- a session that is the same over the same chain
    pub kept-same : (now new : Parts Op) (state : ChainState) → new ≡ now → IsOver same meanings now state.held → IsKept same meanings 0 now new state state
    kept-same now new state is over =
        subst (λ (p : Parts Op). IsKept same meanings 0 now p state state) (sym is)
        (record { session = λ held of. of; over = over; left = leaves-nothing (session_names now) state })

    -- the step was refused
    pub unstepped : (step : StateStep Op) (refused : SessionRefused) (now new : Parts Op) (s0 s1 : ChainState) → IsKept same meanings 0 now new s0 s1 → new ≡ now
        → IsRefusedAs by_graph (step.refused now) refused
        → ((held : Session Table Op) → IsSessionOf same meanings now s0.held held → IsRefusedAs by_graph (IsRefusalOf (step.gives held.history)) refused)
        → Commits same meanings step (Err refused) now new s0 s1
    unstepped step refused now new s0 s1 kept is why why_session = record {
      made = tt;
      number = tt;
      unchanged = is;
      session = λ held of. tt;
      action = λ held of. tt;
      same = kept.session;
      refused = why;
      refused_session = why_session;
      over = kept.over;
      other_names =
          let counted = ap (λ (p : Parts Op). length (values_of p.entries)) is in
          record { names = omega (arith, kept.left.counts.names, counted) };
      left = kept.left;
    }
