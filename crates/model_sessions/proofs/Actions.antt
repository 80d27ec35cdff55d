-- Actions keep right cached pairs.
use Rattle.std.proofs.Common.{◌≡◌, ℕ, ◌≤◌, ◌⊎◌, Bool, true, false, not, cond, List, [], ◌∷◌, filter, length, inl, inr, refl, sym, subst, arith, Option, Some, None, Result, Ok, Err, IfOk}
use Rattle.std.specs.Prelude.{fold, ◌==◌}
use Rattle.std.specs.List.{IsDistinct}
use Rattle.std.specs.Result.{result_unwrap_or}
use Rattle.std.proofs.lemmas.Bool.Decides.{nat_tests}
use Rattle.plane_rect.specs.Rectangle.{Rectangle}
use Rattle.model_buffers.specs.declared.edit.BufferEdit.{BufferEdit}
use Rattle.model_buffers.specs.BufferEdit.{written_by}
use Rattle.model_buffers.specs.Edits.{Edited, edited_table}
use Rattle.model_buffers.specs.Table.{Table, layout_of}
use Rattle.model_graphs.specs.Laws.{Distinguishes, IsBoxed, KeepsLaws}
use Rattle.model_graphs.specs.Meanings.{Meanings}
use Rattle.model_graphs.specs.Node.{index_of}
use Rattle.model_states.specs.declared.refused.StateRefused.{StateRefused}
use Rattle.model_states.specs.Cache.{AreRight, Cached, by_pair, needed_pairs, with_bytes}
use Rattle.model_states.specs.Damage.{damage}
use Rattle.model_states.specs.History.{Appends, History, committed, number_of, redone, undone}
use Rattle.plane_rect.specs.Tile.{meets}
use Rattle.model_states.specs.State.{State}
use Rattle.model_states.proofs.CacheLaws.{distinct-filter, stays_distinct, stays_in_capacity}
use Rattle.model_states.proofs.HistoryLaws.{commit_appends, redo_appends, undo_appends}
use Rattle.model_states.proofs.NeededRight.{need_right}
use Rattle.model_states.proofs.Renders.{render_leaves_right}
use Rattle.model_sessions.specs.Histories.{change_to, last_state, scene_of}
use Rattle.model_sessions.specs.Sessions.{Action, AreProperActions, IsProperAction, IsSession, Make, Render, Session, after_action, at_level_zero, can_render, last_scene, new_session, render_need, session_of, with_render, with_state}
use Rattle.model_sessions.specs.Steps.{Commit, EditBuffer, EditNode, HistoryEdit, IsProper, Redo, Undo, after_step, with_edit, with_working, with_workspace}
use Rattle.model_sessions.specs.Tables.{table_shapes}
use Rattle.model_sessions.proofs.RightPairs.{leave_right}
use Rattle.model_sessions.proofs.Steps.{latest_valid, start, step_keeps, valid_scene}

fewer : (test : Cached → Bool) (list : List Cached) → length (filter test list) ≤ length list
fewer test [] = omega arith
fewer test (c ∷ list) = by (test c) (fewer test list)
  where
    by : (b : Bool) → length (filter test list) ≤ length list → length (cond b (c ∷ filter test list) (filter test list)) ≤ length (c ∷ list)
    by true less = omega (arith, less)
    by false less = omega (arith, less)

module _ {Op : Type 0} (same : Op → Op → Bool) (meanings : Meanings Op) (laws : KeepsLaws meanings) (boxed : IsBoxed meanings) (distinguishes : Distinguishes same) where
  -- ---- a step appends a state, or leaves the last one

  -- the last state is the same
  record IsLeft (before after : History Table Op) : Type 0 where
    latest : last_state after ≡ last_state before
    number : number_of after ≡ number_of before

  abbrev Stepped : History Table Op → History Table Op → Type 0
  Stepped before after = IsLeft before after ⊎ Appends before after

  unless_refused : (history : History Table Op) (r : Result (History Table Op) StateRefused) → IfOk r (Appends history) → Stepped history (result_unwrap_or r history)
  unless_refused history (Ok next) appends = inr appends
  unless_refused history (Err refused) appends = inl (record { latest = refl; number = refl })

  edit_stepped : (history : History Table Op) (edit : BufferEdit) (r : Edited) → Stepped history (with_workspace history (with_edit history.workspace edit r))
  edit_stepped history edit (Err refused) = inl (record { latest = refl; number = refl })
  edit_stepped history edit (Ok table) = of (written_by (layout_of history.workspace.working) edit)
    where
      of : (o : Option (List ℕ × Rectangle)) → Stepped history (with_workspace history (with_working history.workspace table o))
      of None = inl (record { latest = refl; number = refl })
      of (Some entry) = inl (record { latest = refl; number = refl })

  stepped : (history : History Table Op) (step : HistoryEdit Op) → Stepped history (after_step meanings history step)
  stepped history (EditBuffer edit) = edit_stepped history edit (edited_table history.workspace.working edit)
  stepped history (EditNode edit) = inl (record { latest = refl; number = refl })
  stepped history Commit = unless_refused history (committed meanings table_shapes history) (commit_appends meanings table_shapes history)
  stepped history Undo = unless_refused history (undone history) (undo_appends history)
  stepped history Redo = unless_refused history (redone history) (redo_appends history)

  -- ---- sessions

  step_session : (capacity : ℕ) (session : Session Table Op) (step : HistoryEdit Op) → IsSession meanings capacity session → IsProper step →
      IsSession meanings capacity (after_action same meanings capacity session (Make step))
  step_session capacity session step is proper = by (number_of after == number_of before) refl (stepped before step)
    where
      before : History Table Op
      before = session.history

      after : History Table Op
      after = after_step meanings before step

      list : List Cached
      list = session.cached.list

      kept : Cached → Bool
      kept cached = not (meets cached.pair.tile (damage same meanings (change_to meanings before after) cached.pair.node))

      by : (b : Bool) → (number_of after == number_of before) ≡ b → Stepped before after →
          IsSession meanings capacity (cond b (record session { history = after }) (with_state same meanings session after))
      by true e (inl left) =
          record {
            history = step_keeps meanings before step is.history proper;
            right = subst (λ (state : State Table Op). AreRight meanings (scene_of state) list) (sym left.latest) is.right;
            distinct = is.distinct;
            few = is.few;
          }
      by true e (inr appends) =
          let equal : number_of after ≡ number_of before = grind (arith, nat_tests) in
          absurd (omega (arith, appends.number, equal))
      by false e (inl left) =
          let equal : number_of after ≡ number_of before = left.number in
          absurd (grind (arith, nat_tests, equal))
      by false e (inr appends) =
          let next = step_keeps meanings before step is.history proper in
          record {
            history = next;
            right = leave_right same meanings before after laws distinguishes is.history next appends list is.right;
            distinct = distinct-filter by_pair kept list is.distinct;
            few = let less = fewer kept list in omega (arith, less, is.few);
          }

  render_session : (capacity : ℕ) (session : Session Table Op) (name : List ℕ) (z : ℕ) (rectangle : Rectangle) → IsSession meanings capacity session →
      IsSession meanings capacity (after_action same meanings capacity session (Render name z rectangle))
  render_session capacity session name z rectangle is =
      let scene = last_scene session in
      let pairs = needed_pairs scene.nodes (render_need meanings scene name z rectangle) in
      let rendered : IsSession meanings capacity (with_render meanings capacity session name z rectangle) =
      record {
        history = is.history;
        right = render_leaves_right meanings scene (Some capacity) session.cached pairs is.right
            (need_right meanings scene (index_of scene.nodes name) (at_level_zero z rectangle) boxed
            (valid_scene meanings (last_state session.history) (latest_valid meanings session.history is.history)));
        distinct = stays_distinct by_pair (with_bytes meanings scene) (Some capacity) session.cached pairs (λ pair. refl) is.distinct;
        few = stays_in_capacity by_pair (with_bytes meanings scene) capacity session.cached pairs is.few;
      } in
      elim (can_render meanings capacity scene name z rectangle)
      as (λ b. IsSession meanings capacity (cond b (with_render meanings capacity session name z rectangle) session)) [
        | true ↦ rendered
        | false ↦ is
      ]

  pub action_keeps : (capacity : ℕ) (session : Session Table Op) (action : Action Op) → IsSession meanings capacity session → IsProperAction action →
      IsSession meanings capacity (after_action same meanings capacity session action)
  action_keeps capacity session (Make step) is proper = step_session capacity session step is proper
  action_keeps capacity session (Render name z rectangle) is proper = render_session capacity session name z rectangle is

  actions_keep : (capacity : ℕ) (session : Session Table Op) (actions : List (Action Op)) → IsSession meanings capacity session → AreProperActions actions →
      IsSession meanings capacity (fold (after_action same meanings capacity) session actions)
  actions_keep capacity session [] is proper = is
  actions_keep capacity session (action ∷ actions) is proper =
      actions_keep capacity (after_action same meanings capacity session action) actions (action_keeps capacity session action is proper.0) proper.1

  pub first_session : (capacity : ℕ) → IsSession meanings capacity new_session
  unfolding IsDistinct
  first_session capacity = record { history = start meanings; right = tt; distinct = tt; few = omega arith }

  pub session_keeps : (capacity : ℕ) (actions : List (Action Op)) → AreProperActions actions → IsSession meanings capacity (session_of same meanings capacity actions)
  session_keeps capacity actions proper = actions_keep capacity new_session actions (first_session capacity) proper
