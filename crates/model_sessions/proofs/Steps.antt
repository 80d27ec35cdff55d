-- Steps keep histories.
use Rattle.std.proofs.Common.{◌≡◌, ℕ, zero, suc, ◌+◌, ◌≤◌, List, [], ◌∷◌, ◌++◌, take, length, refl, sym, ◌∙◌, subst, arith, Option, Some, None, Result, Ok, Err, IfOk}
use Rattle.std.specs.Prelude.{slice_get, fold}
use Rattle.std.specs.List.{AllByRecursion, IsDistinct}
use Rattle.std.specs.Result.{result_unwrap_or}
use Rattle.std.proofs.lemmas.List.{length-append}
use Rattle.std.proofs.lemmas.Option.{same_Some}
use Rattle.pixel_formats.specs.Limits.{max_undoable}
use Rattle.plane_rect.specs.Rectangle.{Rectangle}
use Rattle.model_buffers.specs.declared.edit.BufferEdit.{BufferEdit}
use Rattle.model_buffers.specs.BufferEdit.{IsProperEdit, written_by}
use Rattle.model_buffers.specs.Edits.{Edited, edited_table}
use Rattle.model_buffers.specs.Table.{IsTable, Table, layout_of, no_buffers}
use Rattle.model_buffers.proofs.SeenLaws.{IsTable-no_buffers}
use Rattle.model_graphs.specs.declared.node.NodeEdit.{NodeEdit}
use Rattle.model_graphs.specs.Meanings.{Meanings}
use Rattle.model_graphs.specs.Node.{Node}
use Rattle.model_states.specs.declared.refused.StateRefused.{StateRefused}
use Rattle.model_states.specs.Damage.{IsStated}
use Rattle.model_states.specs.Edits.{edited}
use Rattle.model_states.specs.History.{Committed, History, appended, committed, committed_states, latest_of, new_history, number_of, redone, undone, with_step}
use Rattle.model_states.specs.Rectangles.{Rectangles, with_written}
use Rattle.model_states.specs.Retained.{AreFew, Retained, Stepped, left_state, redo_to, undo_to, with_commit}
use Rattle.model_states.specs.State.{IsValidScene, State}
use Rattle.model_states.specs.Valid.{AreValid}
use Rattle.model_states.specs.Workspace as workspace
use Rattle.model_states.specs.Workspace.{Workspace, settled, settled_step, with_pending}
use Rattle.model_states.proofs.EditLaws.{edits_leave_valid}
use Rattle.model_states.proofs.RetainedLaws.{at_last, commit_few}
use Rattle.model_states.proofs.Stated.{stated_valid}
use Rattle.model_sessions.specs.Histories.{AreInTurn, AreSeparated, AreTablesSeparated, IsHistory, IsTrail, IsValidState, last_state, scene_of, side_of_state}
use Rattle.model_sessions.specs.Steps.{AreProper, Commit, EditBuffer, EditNode, HistoryEdit, IsProper, Redo, Undo, after_step, made_by, only, with_edit, with_working, with_workspace}
use Rattle.model_sessions.specs.Tables.{Continues, table_shapes}
use Rattle.model_sessions.proofs.Continuing.{continues-itself, continues-then, edit-continues, edit-table}
use Rattle.model_sessions.proofs.Sources.{images_known, neighbors, neighbors-back}

-- ---- lists

all_push : {X : Type 0} (P : X → Type 0) (xs : List X) (x : X) → AllByRecursion P xs → P x → AllByRecursion P (xs ++ x ∷ [])
all_push P [] x all p = (p, tt)
all_push P (first ∷ xs) x all p = (all.0, all_push P xs x all.1 p)

all_last : {X : Type 0} (P : X → Type 0) (xs : List X) (x : X) → AllByRecursion P (xs ++ x ∷ []) → P x
all_last P [] x all = all.0
all_last P (first ∷ xs) x all = all_last P xs x all.1

none_at : {X : Type 0} (x after : X) (k : ℕ) → slice_get (x ∷ []) (suc k) ≡ Some after → ⊥
none_at x after k found = cc

abbrev States : Type 0 → Type 0
States Op = Retained (State Table Op) Rectangles

abbrev Step : Type 0 → Type 0
Step Op = Stepped (Workspace Table Op Rectangles) Rectangles

module _ {Op : Type 0} where
  -- the first of a list that goes on is the first of its prefix
  first_same : (xs : List (Committed Table Op)) (x y : Committed Table Op) → slice_get (xs ++ x ∷ [] ++ y ∷ []) 0 ≡ slice_get (xs ++ x ∷ []) 0
  first_same [] x y = refl
  first_same (z ∷ xs) x y = refl

  turn_push : (xs : List (Committed Table Op)) (x y : Committed Table Op) → AreInTurn (xs ++ x ∷ []) → AreSeparated x y → AreInTurn (xs ++ x ∷ [] ++ y ∷ [])
  turn_push [] x y turn separated zero before after found next =
      subst (λ (p : Committed Table Op). AreSeparated p after) (same_Some x before found)
      (subst (λ (p : Committed Table Op). AreSeparated x p) (same_Some y after next) separated)
  turn_push [] x y turn separated (suc k) before after found next = absurd (cc)
  turn_push (z ∷ xs) x y turn separated zero before after found next = turn zero before after found (sym (first_same xs x y) ∙ next)
  turn_push (z ∷ xs) x y turn separated (suc k) before after found next =
      turn_push xs x y (λ k before after found next. turn (suc k) before after found next) separated k before after found next

  pub turn_last : (xs : List (Committed Table Op)) (x y : Committed Table Op) → AreInTurn (xs ++ x ∷ [] ++ y ∷ []) → AreSeparated x y
  turn_last [] x y turn = turn 0 x y refl refl
  turn_last (z ∷ xs) x y turn = turn_last xs x y (λ k before after found next. turn (suc k) before after found next)

  trail_take : (meanings : Meanings Op) (n : ℕ) (state : State Table Op) (trail : List (Committed Table Op)) → IsTrail meanings state trail → IsTrail meanings state (take n trail)
  trail_take meanings zero state trail is = tt
  trail_take meanings (suc n) state [] is = tt
  trail_take meanings (suc n) state (next ∷ rest) is = (is.0, is.1, trail_take meanings n next.state rest is.2)

  -- ---- valid states

  pub valid_scene : (meanings : Meanings Op) (state : State Table Op) → IsValidState meanings state → IsValidScene meanings (scene_of state)
  valid_scene meanings state is = subst (λ shapes. AreValid meanings shapes state.nodes) (sym (images_known state.table)) is.nodes

  pub valid_side : (meanings : Meanings Op) (state : State Table Op) → IsValidState meanings state → IsStated meanings (side_of_state meanings state)
  valid_side meanings state is = stated_valid meanings (table_shapes state.table) state.nodes is.nodes

  pub latest_valid : (meanings : Meanings Op) (history : History Table Op) → IsHistory meanings history → IsValidState meanings (last_state history)
  latest_valid meanings history is = all_last (λ (committed : Committed Table Op). IsValidState meanings committed.state) history.earlier (latest_of history) is.states

  -- ---- a state more

  -- a step to retained states from a history, and what it needs to make a history
  record IsNext (meanings : Meanings Op) (history : History Table Op) (step : Stepped (States Op) Rectangles) : Type 0 where
    valid : IsValidState meanings step.next.latest
    separated : AreTablesSeparated (last_state history).table step.next.latest.table step.delta
    number : step.next.number ≡ number_of history + 1
    undoable : IsTrail meanings step.next.latest step.next.undoable
    redoable : IsTrail meanings step.next.latest step.next.redoable
    few : AreFew step.next

  state_more : (meanings : Meanings Op) (history : History Table Op) (step : Stepped (States Op) Rectangles) → IsHistory meanings history → IsNext meanings history step →
      IsHistory meanings (with_step history (record { next = settled step.next; delta = step.delta }))
  state_more meanings history step is next =
      let latest : Committed Table Op = record { state = step.next.latest; delta = step.delta } in
      record {
        states = all_push (λ (committed : Committed Table Op). IsValidState meanings committed.state) (committed_states history) latest is.states next.valid;
        in_turn = turn_push history.earlier (latest_of history) latest is.in_turn next.separated;
        number = let count = length-append history.earlier (latest_of history ∷ []) in omega (arith, count, next.number, is.number);
        working = next.valid.table;
        continued = continues-itself step.next.latest.table;
        undoable = next.undoable;
        redoable = next.redoable;
        few = next.few;
      }

  -- the state that is left is away from the next one by the same rectangles
  left_trail : (meanings : Meanings Op) (history : History Table Op) (next : State Table Op) (delta : Rectangles) (trail : List (Committed Table Op)) →
      IsHistory meanings history → AreTablesSeparated (last_state history).table next.table delta → IsTrail meanings (last_state history) trail →
      IsTrail meanings next (left_state history.workspace.retained delta ∷ trail)
  left_trail meanings history next delta trail is separated rest =
      (latest_valid meanings history is, neighbors-back (last_state history).table next.table delta separated, rest)

  -- ---- steps that append a state

  keeps_step : (meanings : Meanings Op) (history : History Table Op) (r : Result (Step Op) StateRefused) → IfOk r (λ step. IsHistory meanings (with_step history step)) → IfOk (appended history r) (IsHistory meanings)
  keeps_step meanings history (Ok step) is = is
  keeps_step meanings history (Err refused) is = tt

  keeps_settled : (meanings : Meanings Op) (history : History Table Op) (r : Result (Stepped (States Op) Rectangles) StateRefused) → IsHistory meanings history →
      IfOk r (IsNext meanings history) → IfOk (appended history (settled_step r)) (IsHistory meanings)
  keeps_settled meanings history (Ok step) is next = state_more meanings history step is next
  keeps_settled meanings history (Err refused) is next = tt

  commit_keeps : (meanings : Meanings Op) (history : History Table Op) → IsHistory meanings history → IfOk (committed meanings table_shapes history) (IsHistory meanings)
  commit_keeps meanings history is =
      let nodes = edited meanings (table_shapes history.workspace.working) (last_state history).nodes history.workspace.pending in
      let step = workspace.commit_edited history.workspace (λ state. history.workspace.written) nodes in
      keeps_step meanings history (workspace.committed meanings table_shapes (λ state. history.workspace.written) history.workspace)
      (at_last (λ step. IsHistory meanings (with_step history step)) (number_of history) step
      (of nodes (edits_leave_valid meanings (table_shapes history.workspace.working) (last_state history).nodes history.workspace.pending valid.nodes.few valid.nodes.distinct)))
    where
      valid : IsValidState meanings (last_state history)
      valid = latest_valid meanings history is

      separated : AreTablesSeparated (last_state history).table history.workspace.working history.workspace.written
      separated = neighbors (last_state history).table history.workspace.working history.workspace.written is.continued

      of : (r : Result (List (Node Op)) StateRefused) → IfOk r (AreValid meanings (table_shapes history.workspace.working)) →
          IfOk (workspace.commit_edited history.workspace (λ state. history.workspace.written) r) (λ step. IsHistory meanings (with_step history step))
      of (Err refused) are = tt
      of (Ok nodes) are =
          let next : State Table Op = record { table = history.workspace.working; nodes = nodes } in
          let written = history.workspace.written in
          state_more meanings history (record { next = with_commit history.workspace.retained next written; delta = written }) is
          (record {
            valid = record { table = is.working; nodes = are };
            separated = separated;
            number = refl;
            undoable = trail_take meanings max_undoable next (left_state history.workspace.retained written ∷ history.workspace.retained.undoable)
                (left_trail meanings history next written history.workspace.retained.undoable is separated is.undoable);
            redoable = tt;
            few = commit_few history.workspace.retained next written;
          })

  -- A step along a trail, beside which are others: it is refused, or the first state of the trail becomes the last one. What
  -- is given of that state makes it the next one.
  next_along : (meanings : Meanings Op) (history : History Table Op) (step : List (Committed Table Op) → Result (Stepped (States Op) Rectangles) StateRefused) (trail others : List (Committed Table Op)) →
      IsHistory meanings history → IsTrail meanings (last_state history) trail → IsTrail meanings (last_state history) others → length trail + length others ≤ max_undoable →
      IfOk (step []) (IsNext meanings history) →
      ((next : Committed Table Op) (rest : List (Committed Table Op)) → IsValidState meanings next.state → AreTablesSeparated (last_state history).table next.state.table next.delta →
      IsTrail meanings next.state rest → IsTrail meanings next.state (left_state history.workspace.retained next.delta ∷ others) →
      length rest + length (left_state history.workspace.retained next.delta ∷ others) ≤ max_undoable → IfOk (step (next ∷ rest)) (IsNext meanings history)) →
      IfOk (step trail) (IsNext meanings history)
  next_along meanings history step [] others is along beside few none some = none
  next_along meanings history step (next ∷ rest) others is along beside few none some =
      some next rest along.0 along.1 along.2 (left_trail meanings history next.state next.delta others is along.1 beside) (omega (arith, few))

  undo_keeps : (meanings : Meanings Op) (history : History Table Op) → IsHistory meanings history → IfOk (undone history) (IsHistory meanings)
  undo_keeps meanings history is =
      let retained : States Op = history.workspace.retained in
      keeps_settled meanings history _ is
      (at_last (IsNext meanings history) (number_of history) (undo_to retained retained.undoable)
      (next_along meanings history (undo_to retained) retained.undoable retained.redoable is is.undoable is.redoable is.few tt
      (λ next rest valid separated along beside few. record { valid = valid; separated = separated; number = refl; undoable = along; redoable = beside; few = few })))

  redo_keeps : (meanings : Meanings Op) (history : History Table Op) → IsHistory meanings history → IfOk (redone history) (IsHistory meanings)
  redo_keeps meanings history is =
      let retained : States Op = history.workspace.retained in
      keeps_settled meanings history _ is
      (at_last (IsNext meanings history) (number_of history) (redo_to retained retained.redoable)
      (next_along meanings history (redo_to retained) retained.redoable retained.undoable is is.redoable is.undoable (omega (arith, is.few)) tt
      (λ next rest valid separated along beside few. record { valid = valid; separated = separated; number = refl; undoable = beside; redoable = along; few = omega (arith, few) })))

  or_before : (P : History Table Op → Type 0) (history : History Table Op) (r : Result (History Table Op) StateRefused) → P history → IfOk r P → P (result_unwrap_or r history)
  or_before P history (Ok next) was is = is
  or_before P history (Err refused) was is = was

  -- ---- edits

  -- a history of the same states, whose workspace goes on from the last of them to a table
  workspace_keeps : (meanings : Meanings Op) (history : History Table Op) (table : Table) (written : Rectangles) (pending : List (NodeEdit Op)) → IsHistory meanings history → IsTable table →
      Continues (last_state history).table written table →
      IsHistory meanings (with_workspace history (record history.workspace { working = table; pending = pending; written = written }))
  workspace_keeps meanings history table written pending is whole continued =
      record {
        states = is.states;
        in_turn = is.in_turn;
        number = is.number;
        working = whole;
        continued = continued;
        undoable = is.undoable;
        redoable = is.redoable;
        few = is.few;
      }

  edit_keeps : (meanings : Meanings Op) (history : History Table Op) (edit : BufferEdit) → IsHistory meanings history → IsProperEdit edit →
      IsHistory meanings (with_workspace history (with_edit history.workspace edit (edited_table history.workspace.working edit)))
  edit_keeps meanings history edit is proper =
      of (edited_table now edit) (edit-table now edit is.working proper) (edit-continues now edit is.working proper)
    where
      now : Table
      now = history.workspace.working

      with_table : (table : Table) (o : Option (List ℕ × Rectangle)) → IsTable table → Continues now (only o) table → IsHistory meanings (with_workspace history (with_working history.workspace table o))
      with_table table None whole more =
          workspace_keeps meanings history table history.workspace.written history.workspace.pending is whole
          (continues-then (last_state history).table now table history.workspace.written None is.continued more)
      with_table table (Some entry) whole more =
          workspace_keeps meanings history table (with_written history.workspace.written entry.0 entry.1) history.workspace.pending is whole
          (continues-then (last_state history).table now table history.workspace.written (Some entry) is.continued more)

      of : (r : Edited) → IfOk r IsTable → IfOk r (Continues now (only (written_by (layout_of now) edit))) → IsHistory meanings (with_workspace history (with_edit history.workspace edit r))
      of (Ok table) whole continued = with_table table (written_by (layout_of now) edit) whole continued
      of (Err refused) whole continued = is

  pending_keeps : (meanings : Meanings Op) (history : History Table Op) (edit : NodeEdit Op) → IsHistory meanings history → IsHistory meanings (with_workspace history (with_pending history.workspace edit))
  pending_keeps meanings history edit is =
      workspace_keeps meanings history history.workspace.working history.workspace.written (history.workspace.pending ++ edit ∷ []) is is.working is.continued

  -- ---- all steps

  pub step_keeps : (meanings : Meanings Op) (history : History Table Op) (step : HistoryEdit Op) → IsHistory meanings history → IsProper step → IsHistory meanings (after_step meanings history step)
  step_keeps meanings history (EditBuffer edit) is proper = edit_keeps meanings history edit is proper
  step_keeps meanings history (EditNode edit) is proper = pending_keeps meanings history edit is
  step_keeps meanings history Commit is proper = or_before (IsHistory meanings) history (committed meanings table_shapes history) is (commit_keeps meanings history is)
  step_keeps meanings history Undo is proper = or_before (IsHistory meanings) history (undone history) is (undo_keeps meanings history is)
  step_keeps meanings history Redo is proper = or_before (IsHistory meanings) history (redone history) is (redo_keeps meanings history is)

  steps_keep : (meanings : Meanings Op) (history : History Table Op) (steps : List (HistoryEdit Op)) → IsHistory meanings history → AreProper steps → IsHistory meanings (fold (after_step meanings) history steps)
  steps_keep meanings history [] is proper = is
  steps_keep meanings history (step ∷ steps) is proper =
      steps_keep meanings (after_step meanings history step) steps (step_keeps meanings history step is proper.0) proper.1

  pub start : (meanings : Meanings Op) → IsHistory meanings (new_history {Op = Op} no_buffers)
  unfolding IsDistinct
  start meanings =
      let history : History Table Op = new_history no_buffers in
      record {
        states = (record { table = IsTable-no_buffers; nodes = record { few = omega arith; distinct = tt; steps = tt } }, tt);
        in_turn = λ k before after found next. absurd (none_at (latest_of history) after k next);
        number = refl;
        working = IsTable-no_buffers;
        continued = continues-itself no_buffers;
        undoable = tt;
        redoable = tt;
        few = omega arith;
      }

  pub made_keeps : (meanings : Meanings Op) (steps : List (HistoryEdit Op)) → AreProper steps → IsHistory meanings (made_by meanings steps)
  made_keeps meanings steps proper = steps_keep meanings (new_history no_buffers) steps (start meanings) proper
