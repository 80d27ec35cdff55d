-- Steps of what is retained.
use Rattle.std.proofs.Common.{◌≡◌, ℕ, ◌+◌, ◌≤◌, Bool, true, false, List, [], ◌∷◌, cond, length, refl, arith, Result, Err, IfOk}
use Rattle.std.specs.Prelude.{◌==◌}
use Rattle.std.proofs.lemmas.List.{length-take}
use Rattle.pixel_formats.specs.Limits.{max_undoable}
use Rattle.model_states.specs.declared.refused.StateRefused.{StateRefused}
use Rattle.model_states.specs.declared.refused.StateRefused.TheVariants.{TooManyCommits}
use Rattle.model_states.specs.Retained.{AreFew, Leads, Retained, Separated, Stepped, last_number, left_state, redo_to, redone, undo_to, undone, unless_last, with_commit}

-- a result that is refused at the last number
pub at_last : {A : Type 0} (P : A → Type 0) (number : ℕ) (r : Result A StateRefused) → IfOk r P → IfOk (unless_last number r) P
at_last P number r h = of (number == last_number)
  where
    of : (last : Bool) → IfOk (cond last (Err TooManyCommits) r) P
    of true = tt
    of false = h

module _ {State Delta : Type 0} where
  pub undo_reverts : (before : Retained State Delta) (state : State) (delta : Delta) → IfOk (undone (with_commit before state delta)) (Leads before.latest delta)
  undo_reverts before state delta =
      at_last (Leads before.latest delta) (before.number + 1) (undo_to (with_commit before state delta) (with_commit before state delta).undoable)
      (record { latest = refl; separated = refl })

  -- a redo right after a step leads to the state before it
  abbrev Repeats : Retained State Delta → Stepped (Retained State Delta) Delta → Type 0
  Repeats before undo = IfOk (redone undo.next) (Leads before.latest undo.delta)

  redo_repeats_to : (before : Retained State Delta) (undoable : List (Separated State Delta)) → IfOk (undo_to before undoable) (Repeats before)
  redo_repeats_to before [] = tt
  redo_repeats_to before (back ∷ rest) =
      at_last (Leads before.latest back.delta) (before.number + 1) _ (record { latest = refl; separated = refl })

  pub redo_repeats : (before : Retained State Delta) → IfOk (undone before) (Repeats before)
  redo_repeats before = at_last (Repeats before) before.number (undo_to before before.undoable) (redo_repeats_to before before.undoable)

  -- ---- the next number

  abbrev IsNext : Retained State Delta → Stepped (Retained State Delta) Delta → Type 0
  IsNext before step = step.next.number ≡ before.number + 1

  pub undo_next : (before : Retained State Delta) → IfOk (undone before) (IsNext before)
  undo_next before = at_last (IsNext before) before.number (undo_to before before.undoable) (of before.undoable)
    where
      of : (undoable : List (Separated State Delta)) → IfOk (undo_to before undoable) (IsNext before)
      of [] = tt
      of (back ∷ rest) = refl

  pub redo_next : (before : Retained State Delta) → IfOk (redone before) (IsNext before)
  redo_next before = at_last (IsNext before) before.number (redo_to before before.redoable) (of before.redoable)
    where
      of : (redoable : List (Separated State Delta)) → IfOk (redo_to before redoable) (IsNext before)
      of [] = tt
      of (next ∷ rest) = refl

  -- ---- how many states are retained

  abbrev LeavesFew : Stepped (Retained State Delta) Delta → Type 0
  LeavesFew step = AreFew step.next

  pub commit_few : (before : Retained State Delta) (state : State) (delta : Delta) → AreFew (with_commit before state delta)
  commit_few before state delta = omega (arith, length-take max_undoable (left_state before delta ∷ before.undoable))

  pub undo_few : (before : Retained State Delta) → AreFew before → IfOk (undone before) LeavesFew
  undo_few before few = at_last LeavesFew before.number (undo_to before before.undoable) (of before.undoable few)
    where
      of : (undoable : List (Separated State Delta)) → length undoable + length before.redoable ≤ max_undoable → IfOk (undo_to before undoable) LeavesFew
      of [] few = tt
      of (back ∷ rest) few = omega (arith, few)

  pub redo_few : (before : Retained State Delta) → AreFew before → IfOk (redone before) LeavesFew
  redo_few before few = at_last LeavesFew before.number (redo_to before before.redoable) (of before.redoable few)
    where
      of : (redoable : List (Separated State Delta)) → length before.undoable + length redoable ≤ max_undoable → IfOk (redo_to before redoable) LeavesFew
      of [] few = tt
      of (next ∷ rest) few = omega (arith, few)
