-- Steps through what is retained of a history, back and on.
use Rattle.std.specs.Prelude.{◌+◌, List, ◌∷◌, Result}
use Rattle.model_states.specs.declared.refused.StateRefused.{StateRefused}
use Rattle.model_states.specs.declared.refused.StateRefused.TheVariants.{NothingToUndo, NothingToRedo}
use Rattle.model_states.specs.Damage.{Change, Side}
use Rattle.model_states.specs.Rectangles.{Rectangles}
use Rattle.model_states.specs.Retained.{Retained, Separated, Stepped, left_state, redo_to, undo_to, unless_last}
use Rattle.model_states.specs.declared.direction.Direction.{Direction}
use Rattle.model_states.specs.declared.direction.Direction.TheVariants.{Undo, Redo}

-- what an undo has, or what a redo has
abbrev pub by_direction : {A : Type 0} → Direction → A → A → A
by_direction Undo undo redo = undo
by_direction Redo undo redo = redo

-- the states to which steps lead, the next one first
abbrev pub ahead : {State Delta : Type 0} → Direction → Retained State Delta → List (Separated State Delta)
ahead Undo retained = retained.undoable
ahead Redo retained = retained.redoable

-- to the first of some states
abbrev pub step_to : {State Delta : Type 0} → Direction → Retained State Delta → List (Separated State Delta) → Result (Stepped (Retained State Delta) Delta) StateRefused
step_to Undo retained states = undo_to retained states
step_to Redo retained states = redo_to retained states

-- what is retained after a step to a state, behind which these are left
abbrev pub with_first : {State Delta : Type 0} → Direction → Retained State Delta → Separated State Delta → List (Separated State Delta) → Retained State Delta
with_first direction retained next rest = record {
  number = retained.number + 1;
  latest = next.state;
  undoable = by_direction direction rest (left_state retained next.delta ∷ retained.undoable);
  redoable = by_direction direction (left_state retained next.delta ∷ retained.redoable) rest;
}

-- A step: an undo or a redo.
abbrev pub stepped : {State Delta : Type 0} → Direction → Retained State Delta → Result (Stepped (Retained State Delta) Delta) StateRefused
stepped direction retained = unless_last retained.number (step_to direction retained (ahead direction retained))

-- why a step is refused that has no state to lead to
abbrev pub nothing_ahead : Direction → StateRefused
nothing_ahead Undo = NothingToUndo
nothing_ahead Redo = NothingToRedo

-- the change of the commit that a step from one state to another undoes or makes again
abbrev pub commit_between : {Op : Type 0} → Direction → Side Op → Side Op → Rectangles → Change Op
commit_between Undo latest next written = record { old = next; new = latest; rectangles = written }
commit_between Redo latest next written = record { old = latest; new = next; rectangles = written }
