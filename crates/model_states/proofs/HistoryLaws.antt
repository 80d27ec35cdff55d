-- Steps of a history.
use Rattle.std.proofs.Common.{◌≡◌, ◌+◌, List, refl, Result, Ok, Err, IfOk}
use Rattle.model_graphs.specs.Node.{Node}
use Rattle.model_graphs.specs.Shapes.{Shapes}
use Rattle.model_graphs.specs.Meanings.{Meanings}
use Rattle.model_states.specs.declared.refused.StateRefused.{StateRefused}
use Rattle.model_states.specs.Edits.{edited}
use Rattle.model_states.specs.History.{Appends, History, Returns, appended, committed, redone, undone, with_commit, with_step}
use Rattle.model_states.specs.Rectangles.{Rectangles}
use Rattle.model_states.specs.Retained as retained
use Rattle.model_states.specs.Retained.{Leads, Retained, Stepped, unless_last}
use Rattle.model_states.specs.State.{State}
use Rattle.model_states.specs.Workspace as workspace
use Rattle.model_states.specs.Workspace.{Workspace, settled_step}
use Rattle.model_states.proofs.RetainedLaws as laws
use Rattle.model_states.proofs.RetainedLaws.{at_last}

abbrev States : Type 0 → Type 0 → Type 0
States Table Op = Retained (State Table Op) Rectangles

abbrev Step : Type 0 → Type 0 → Type 0
Step Table Op = Stepped (Workspace Table Op Rectangles) Rectangles

module _ {Table Op : Type 0} where
  -- the step has the next number
  abbrev IsNext : History Table Op → Step Table Op → Type 0
  IsNext history step = step.next.retained.number ≡ history.workspace.retained.number + 1

  step_appends : (history : History Table Op) (r : Result (Step Table Op) StateRefused) → IfOk r (IsNext history) → IfOk (appended history r) (Appends history)
  step_appends history (Err refused) next = tt
  step_appends history (Ok step) next = record { states = refl; number = next }

  -- ---- each step appends one state

  commit_next : (history : History Table Op) (nodes : Result (List (Node Op)) StateRefused) → IfOk (workspace.commit_edited history.workspace (λ state. history.workspace.written) nodes) (IsNext history)
  commit_next history (Err refused) = tt
  commit_next history (Ok nodes) = refl

  pub commit_appends : (meanings : Meanings Op) (shapes : Table → Shapes) (history : History Table Op) → IfOk (committed meanings shapes history) (Appends history)
  commit_appends meanings shapes history =
      let nodes = edited meanings (shapes history.workspace.working) history.workspace.retained.latest.nodes history.workspace.pending in
      let step = workspace.commit_edited history.workspace (λ state. history.workspace.written) nodes in
      step_appends history (unless_last history.workspace.retained.number step)
      (at_last (IsNext history) history.workspace.retained.number step (commit_next history nodes))

  settled_next : (history : History Table Op) (r : Result (Stepped (States Table Op) Rectangles) StateRefused) →
      IfOk r (λ step. step.next.number ≡ history.workspace.retained.number + 1) → IfOk (settled_step r) (IsNext history)
  settled_next history (Err refused) next = tt
  settled_next history (Ok step) next = next

  pub undo_appends : (history : History Table Op) → IfOk (undone history) (Appends history)
  undo_appends history =
      step_appends history (workspace.undone history.workspace)
      (settled_next history (retained.undone history.workspace.retained) (laws.undo_next history.workspace.retained))

  pub redo_appends : (history : History Table Op) → IfOk (redone history) (Appends history)
  redo_appends history =
      step_appends history (workspace.redone history.workspace)
      (settled_next history (retained.redone history.workspace.retained) (laws.redo_next history.workspace.retained))

  -- ---- undo and redo

  leads_returns : (history : History Table Op) (state : State Table Op) (delta : Rectangles) (r : Result (Stepped (States Table Op) Rectangles) StateRefused) →
      IfOk r (Leads state delta) → IfOk (appended history (settled_step r)) (Returns state delta)
  leads_returns history state delta (Err refused) leads = tt
  leads_returns history state delta (Ok step) leads = record { state = leads.latest; rectangles = leads.separated }

  pub undo_reverts : (history : History Table Op) (nodes : List (Node Op)) →
      IfOk (undone (with_commit history nodes)) (Returns history.workspace.retained.latest history.workspace.written)
  undo_reverts history nodes =
      let state : State Table Op = record { table = history.workspace.working; nodes = nodes } in
      leads_returns (with_commit history nodes) history.workspace.retained.latest history.workspace.written
      (retained.undone (retained.with_commit history.workspace.retained state history.workspace.written))
      (laws.undo_reverts history.workspace.retained state history.workspace.written)

  redo_after : (history : History Table Op) (r : Result (Stepped (States Table Op) Rectangles) StateRefused) →
      IfOk r (λ undo. IfOk (retained.redone undo.next) (Leads history.workspace.retained.latest undo.delta)) →
      IfOk (appended history (settled_step r)) (λ before. IfOk (redone before) (Returns history.workspace.retained.latest before.rectangles))
  redo_after history (Err refused) repeats = tt
  redo_after history (Ok undo) repeats =
      leads_returns (with_step history (record { next = workspace.settled undo.next; delta = undo.delta }))
      history.workspace.retained.latest undo.delta (retained.redone undo.next) repeats

  pub redo_repeats : (history : History Table Op) →
      IfOk (undone history) (λ before. IfOk (redone before) (Returns history.workspace.retained.latest before.rectangles))
  redo_repeats history = redo_after history (retained.undone history.workspace.retained) (laws.redo_repeats history.workspace.retained)
