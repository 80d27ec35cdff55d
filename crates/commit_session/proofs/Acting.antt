-- Steps and renders of sessions, as actions.
use Rattle.std.proofs.Common.{◌≡◌, ℕ, Bool, true, false, cond, List, Result, Ok, Err, IfOk, refl, sym, ap, ◌∙◌, subst, arith}
use Rattle.std.specs.Prelude.{◌==◌}
use Rattle.std.specs.Result.{OnErr, OnOk, result_unwrap_or}
use Rattle.std.proofs.lemmas.Bool.{eq-eqb}
use Rattle.std.proofs.lemmas.Bool.Decides.{nat_tests}
use Rattle.chain_owners.specs.Held.{Held}
use Rattle.root_tiles.specs.Chains.{ChainState, Leaves}
use Rattle.model_graphs.specs.declared.node.NodeEdit.{NodeEdit}
use Rattle.model_buffers.specs.declared.edit.BufferEdit.{BufferEdit}
use Rattle.model_buffers.specs.BufferEdit.{edit_refused}
use Rattle.model_buffers.specs.Layout.{TableLayout}
use Rattle.model_buffers.specs.Table.{Table}
use Rattle.model_graphs.specs.Laws.{Distinguishes, IsBoxed, KeepsLaws}
use Rattle.model_graphs.specs.Meanings.{Meanings}
use Rattle.model_states.specs.declared.refused.StateRefused.{StateRefused}
use Rattle.model_states.specs.History.{Appends, History, number_of}
use Rattle.model_states.proofs.HistoryLaws.{commit_appends, redo_appends, undo_appends}
use Rattle.model_states.specs.History as history
use Rattle.model_sessions.specs.Sessions.{Make, Session, after_action, with_history, with_state}
use Rattle.model_sessions.specs.Steps.{Commit, EditBuffer, HistoryEdit, after_step}
use Rattle.model_sessions.specs.Tables.{table_shapes}
use Rattle.model_states.specs.declared.direction.Direction.{Direction}
use Rattle.model_states.specs.declared.direction.Direction.TheVariants.{Redo, Undo}
use Rattle.commit_session.specs.Parts.{Parts, session_names}
use Rattle.commit_session.specs.Seen.{IsSessionOf}
use Rattle.commit_session.specs.Steps.{HasSameStates, IsEditedBy, LeadsTo, history_step, step_action}
use Rattle.commit_session.proofs.Changed.{leaves-nothing}
use Rattle.commit_session.proofs.Working.{edit-number}

-- what holds at Ok may be said in other words
pub on-ok : {T E : Type 0} (r : Result T E) (P Q : Type 0) → (P → Q) → OnOk r P → OnOk r Q
on-ok (Ok x) P Q to p = to p
on-ok (Err e) P Q to p = tt

pub on-error : {T E : Type 0} (r : Result T E) (P Q : Type 0) → (P → Q) → OnErr r P → OnErr r Q
on-error (Ok x) P Q to p = tt
on-error (Err e) P Q to p = to p

-- ---- an edit of nodes that was added, or was not

module _ {Op T E : Type 0} (r : Result T E) (old new : Parts Op) (pending : List (NodeEdit Op)) (added : OnOk r (new ≡ record old { pending = pending })) (unchanged : OnErr r (new ≡ old)) where
  pending-as : (P : Parts Op → Type 0) → P (record old { pending = pending }) → P old → P new
  pending-as P first second = by r added unchanged
    where
      by : (r : Result T E) → OnOk r (new ≡ record old { pending = pending }) → OnErr r (new ≡ old) → P new
      by (Ok x) is not = subst P (sym is) first
      by (Err e) is not = subst P (sym not) second

  pub pending-states : HasSameStates old new
  pending-states =
      pending-as (λ (p : Parts Op). HasSameStates old p)
      (record { latest = refl; undoable = refl; redoable = refl; graph = refl; entries = refl; most = refl; capacity = refl; applied = refl; reused = refl })
      (record { latest = refl; undoable = refl; redoable = refl; graph = refl; entries = refl; most = refl; capacity = refl; applied = refl; reused = refl })

  pub pending-left : (state : ChainState) → Leaves 0 (session_names old) (session_names new) state state
  pending-left state =
      pending-as (λ (p : Parts Op). Leaves 0 (session_names old) (session_names p) state state)
      (leaves-nothing (session_names old) state) (leaves-nothing (session_names old) state)

-- ---- actions

module _ {Op : Type 0} (same : Op → Op → Bool) (meanings : Meanings Op) (session : Session Table Op) where
  -- a history of the same states, and one of one state more
  pub with-same : (next : History Table Op) → number_of next ≡ number_of session.history → with_history same meanings session next ≡ record session { history = next }
  with-same next number =
      ap (λ (b : Bool). cond b (let s : Session Table Op = record session { history = next } in s) (with_state same meanings session next))
      (eq-eqb (number_of next) (number_of session.history) number)

  with-more : (next : History Table Op) → Appends session.history next → with_history same meanings session next ≡ with_state same meanings session next
  with-more next appends = by (number_of next == number_of session.history) refl
    where
      by : (b : Bool) → (number_of next == number_of session.history) ≡ b
          → cond b (let s : Session Table Op = record session { history = next } in s) (with_state same meanings session next) ≡ with_state same meanings session next
      by true e =
          let equal : number_of next ≡ number_of session.history = grind (arith, nat_tests) in
          absurd (omega (arith, appends.number, equal))
      by false e = refl

  leads : (r : Result (History Table Op) StateRefused) → IfOk r (Appends session.history) → (P : Session Table Op → Type 0)
      → LeadsTo r (λ (next : History Table Op). P (with_state same meanings session next)) → P (with_history same meanings session (result_unwrap_or r session.history))
  leads (Ok next) appends P holds = subst P (sym (with-more next appends)) holds
  leads (Err refused) appends P holds = absurd holds

  module _ (capacity : ℕ) (P : Session Table Op → Type 0) where
    pub acts-edit : (step : HistoryEdit Op) → number_of (after_step meanings session.history step) ≡ number_of session.history
        → P (record session { history = after_step meanings session.history step }) → P (after_action same meanings capacity session (Make step))
    acts-edit step number holds = subst P (sym (with-same (after_step meanings session.history step) number)) holds

    pub acts-buffer : KeepsLaws meanings → IsBoxed meanings → Distinguishes same → (old new : Parts Op) (held : Held) → IsSessionOf same meanings old held session → (edit : BufferEdit)
        → IsEditedBy edit old new → P (record session { history = after_step meanings session.history (EditBuffer edit) }) → P (after_action same meanings capacity session (Make (EditBuffer edit)))
    acts-buffer laws boxed apart old new held is edit made holds =
        acts-edit (EditBuffer edit)
        (edit-number same meanings laws boxed apart session.history edit (ap (λ (l : TableLayout). edit_refused l edit) is.working.layout ∙ made.carried_out)) holds

    pub acts-commit : LeadsTo (history.committed meanings table_shapes session.history) (λ (next : History Table Op). P (with_state same meanings session next))
        → P (after_action same meanings capacity session (Make Commit))
    acts-commit = leads (history.committed meanings table_shapes session.history) (commit_appends meanings table_shapes session.history) P

    pub acts-step : (direction : Direction) → LeadsTo (history_step direction session.history) (λ (next : History Table Op). P (with_state same meanings session next))
        → P (after_action same meanings capacity session (Make (step_action direction)))
    acts-step Undo = leads (history.undone session.history) (undo_appends session.history) P
    acts-step Redo = leads (history.redone session.history) (redo_appends session.history) P
