-- The nodes of each state that a history retains are valid, whatever was written to its buffers.
use Rattle.std.proofs.Common.{arith, ℕ, zero, suc, List, [], ◌∷◌, take, sym, subst, Result, Ok, Err, IfOk}
use Rattle.std.specs.List.{AllByRecursion, IsDistinct}
use Rattle.pixel_formats.specs.Limits.{max_undoable}
use Rattle.model_buffers.specs.Table.{Table}
use Rattle.model_graphs.specs.Meanings.{Meanings}
use Rattle.model_graphs.specs.Node.{Node}
use Rattle.model_states.specs.declared.refused.StateRefused.{StateRefused}
use Rattle.model_states.specs.Edits.{edited}
use Rattle.model_states.specs.History.{Committed, History, appended, committed, redone, undone}
use Rattle.model_states.specs.Rectangles.{Rectangles}
use Rattle.model_states.specs.Retained.{Retained, Stepped, left_state, redo_to, undo_to}
use Rattle.model_states.specs.State.{IsValidScene, State}
use Rattle.model_states.specs.Valid.{AreValid}
use Rattle.model_states.specs.Workspace as workspace
use Rattle.model_states.specs.Workspace.{Workspace, settled_step}
use Rattle.model_states.proofs.EditLaws.{edits_leave_valid}
use Rattle.model_states.proofs.RetainedLaws.{at_last}
use Rattle.model_sessions.specs.Histories.{scene_of}
use Rattle.model_sessions.specs.Tables.{table_shapes}
use Rattle.model_sessions.proofs.Sources.{images_known}

module _ {Op : Type 0} (meanings : Meanings Op) where
  -- a state whose nodes are valid over its table
  abbrev pub HasValidNodes : State Table Op → Type 0
  HasValidNodes state = AreValid meanings (table_shapes state.table) state.nodes

  abbrev HaveValidNodes : List (Committed Table Op) → Type 0
  HaveValidNodes states = AllByRecursion (λ (committed : Committed Table Op). HasValidNodes committed.state) states

  -- so each state that is retained
  pub record RetainsValid (retained : Retained (State Table Op) Rectangles) : Type 0 where
    pub latest : HasValidNodes retained.latest
    pub undoable : HaveValidNodes retained.undoable
    pub redoable : HaveValidNodes retained.redoable

  abbrev pub IsKept : History Table Op → Type 0
  IsKept history = RetainsValid history.workspace.retained

  pub valid_over_images : (state : State Table Op) → HasValidNodes state → IsValidScene meanings (scene_of state)
  valid_over_images state valid = subst (λ shapes. AreValid meanings shapes state.nodes) (sym (images_known state.table)) valid

  all_take : (n : ℕ) (states : List (Committed Table Op)) → HaveValidNodes states → HaveValidNodes (take n states)
  all_take zero states all = tt
  all_take (suc n) [] all = tt
  all_take (suc n) (state ∷ states) all = (all.0, all_take n states all.1)

  -- ---- steps

  appended_kept : (history : History Table Op) (r : Result (Stepped (Workspace Table Op Rectangles) Rectangles) StateRefused) → IfOk r (λ step. RetainsValid step.next.retained) →
      IfOk (appended history r) IsKept
  appended_kept history (Ok step) kept = kept
  appended_kept history (Err refused) kept = tt

  settled_kept : (r : Result (Stepped (Retained (State Table Op) Rectangles) Rectangles) StateRefused) → IfOk r (λ step. RetainsValid step.next) →
      IfOk (settled_step r) (λ step. RetainsValid step.next.retained)
  settled_kept (Ok step) kept = kept
  settled_kept (Err refused) kept = tt

  pub commit_kept : (history : History Table Op) → IsKept history → IfOk (committed meanings table_shapes history) IsKept
  commit_kept history kept =
      let nodes = edited meanings (table_shapes history.workspace.working) history.workspace.retained.latest.nodes history.workspace.pending in
      appended_kept history (workspace.committed meanings table_shapes (λ state. history.workspace.written) history.workspace)
      (at_last (λ step. RetainsValid step.next.retained) history.workspace.retained.number (workspace.commit_edited history.workspace (λ state. history.workspace.written) nodes)
      (of nodes (edits_leave_valid meanings (table_shapes history.workspace.working) history.workspace.retained.latest.nodes history.workspace.pending kept.latest.few kept.latest.distinct)))
    where
      of : (r : Result (List (Node Op)) StateRefused) → IfOk r (AreValid meanings (table_shapes history.workspace.working)) →
          IfOk (workspace.commit_edited history.workspace (λ state. history.workspace.written) r) (λ step. RetainsValid step.next.retained)
      of (Err refused) are = tt
      of (Ok nodes) are =
          let before = history.workspace.retained in
          record {
            latest = are;
            undoable = all_take max_undoable (left_state before history.workspace.written ∷ before.undoable) (kept.latest, kept.undoable);
            redoable = tt;
          }

  -- a step back or forth among the retained states
  stepped_kept : (history : History Table Op) (r : Result (Stepped (Retained (State Table Op) Rectangles) Rectangles) StateRefused) → IfOk r (λ step. RetainsValid step.next) →
      IfOk (appended history (settled_step r)) IsKept
  stepped_kept history r kept = appended_kept history (settled_step r) (settled_kept r kept)

  undo_to_kept : (retained : Retained (State Table Op) Rectangles) → RetainsValid retained → (states : List (Committed Table Op)) → HaveValidNodes states →
      IfOk (undo_to retained states) (λ step. RetainsValid step.next)
  undo_to_kept retained kept [] all = tt
  undo_to_kept retained kept (back ∷ rest) all = record { latest = all.0; undoable = all.1; redoable = (kept.latest, kept.redoable) }

  pub undo_kept : (history : History Table Op) → IsKept history → IfOk (undone history) IsKept
  undo_kept history kept =
      let retained = history.workspace.retained in
      stepped_kept history _ (at_last (λ step. RetainsValid step.next) retained.number (undo_to retained retained.undoable) (undo_to_kept retained kept retained.undoable kept.undoable))

  redo_to_kept : (retained : Retained (State Table Op) Rectangles) → RetainsValid retained → (states : List (Committed Table Op)) → HaveValidNodes states →
      IfOk (redo_to retained states) (λ step. RetainsValid step.next)
  redo_to_kept retained kept [] all = tt
  redo_to_kept retained kept (next ∷ rest) all = record { latest = all.0; undoable = (kept.latest, kept.undoable); redoable = all.1 }

  pub redo_kept : (history : History Table Op) → IsKept history → IfOk (redone history) IsKept
  redo_kept history kept =
      let retained = history.workspace.retained in
      stepped_kept history _ (at_last (λ step. RetainsValid step.next) retained.number (redo_to retained retained.redoable) (redo_to_kept retained kept retained.redoable kept.redoable))

  -- no node is valid
  pub none_valid : (table : Table) → HasValidNodes (record { table = table; nodes = [] })
  unfolding IsDistinct
  none_valid table = record { few = omega arith; distinct = tt; steps = tt }
