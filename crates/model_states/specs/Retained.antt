-- What is retained of a history: its last state, and the states that can be undone and redone to.
use Rattle.std.specs.Prelude.{◌≡◌, ℕ, ◌+◌, ◌-◌, ◌^◌, ◌≤◌, ◌==◌, if◌then◌else◌, List, [], ◌∷◌, take, length, Result, Ok, Err}
use Rattle.pixel_formats.specs.Limits.{max_undoable}
use Rattle.model_states.specs.declared.refused.StateRefused.{StateRefused}
use Rattle.model_states.specs.declared.refused.StateRefused.TheVariants.{NothingToUndo, NothingToRedo, TooManyCommits}

-- a state, and the delta that separates it from another one
pub record Separated (State Delta : Type 0) : Type 0 where
  pub state : State
  pub delta : Delta

-- The last state and its number. The states that can be undone and redone to, the next one first: each separated from
-- the one that comes before it in its list, or from the last state.
pub record Retained (State Delta : Type 0) : Type 0 where
  pub number : ℕ
  pub latest : State
  pub undoable : List (Separated State Delta)
  pub redoable : List (Separated State Delta)

-- a first state
abbrev pub retained_from : {State Delta : Type 0} → State → Retained State Delta
retained_from state = record { number = 0; latest = state; undoable = []; redoable = [] }

-- what a step leaves, and the delta that separates its new state from the one before it
pub record Stepped (Next Delta : Type 0) : Type 0 where
  pub next : Next
  pub delta : Delta

-- the largest number of a state
abbrev pub last_number : ℕ
last_number = 2 ^ 32 - 1

-- ---- steps: each makes one state of the next number the last, or is refused and changes nothing

-- what a step from the state of a number gives, where there may be one more
abbrev pub unless_last : {A : Type 0} → ℕ → Result A StateRefused → Result A StateRefused
unless_last number result = if number == last_number then Err TooManyCommits else result

-- the last state, separated by a delta from the one that follows it
abbrev pub left_state : {State Delta : Type 0} → Retained State Delta → Delta → Separated State Delta
left_state retained delta = record { state = retained.latest; delta = delta }

-- A commit of a state: the one before it can be undone to, the oldest is dropped past the largest number, and nothing
-- can be redone.
abbrev pub with_commit : {State Delta : Type 0} → Retained State Delta → State → Delta → Retained State Delta
with_commit retained state delta =
    record {
      number = retained.number + 1;
      latest = state;
      undoable = take max_undoable (left_state retained delta ∷ retained.undoable);
      redoable = [];
    }

-- a step to a state of one of the lists, which leaves these lists
abbrev pub moved_to : {State Delta : Type 0} → Retained State Delta → Separated State Delta → List (Separated State Delta) → List (Separated State Delta) →
    Stepped (Retained State Delta) Delta
moved_to retained to undoable redoable =
    record {
      next = record { number = retained.number + 1; latest = to.state; undoable = undoable; redoable = redoable };
      delta = to.delta;
    }

-- back to the first state that can be undone to
abbrev pub undo_to : {State Delta : Type 0} → Retained State Delta → List (Separated State Delta) → Result (Stepped (Retained State Delta) Delta) StateRefused
undo_to retained [] = Err NothingToUndo
undo_to retained (back ∷ rest) = Ok (moved_to retained back rest (left_state retained back.delta ∷ retained.redoable))

-- An undo: the last commit that is not yet undone is.
abbrev pub undone : {State Delta : Type 0} → Retained State Delta → Result (Stepped (Retained State Delta) Delta) StateRefused
undone retained = unless_last retained.number (undo_to retained retained.undoable)

-- on to the first state that can be redone to
abbrev pub redo_to : {State Delta : Type 0} → Retained State Delta → List (Separated State Delta) → Result (Stepped (Retained State Delta) Delta) StateRefused
redo_to retained [] = Err NothingToRedo
redo_to retained (next ∷ rest) = Ok (moved_to retained next (left_state retained next.delta ∷ retained.undoable) rest)

-- A redo: the last undo that is not yet repeated is.
abbrev pub redone : {State Delta : Type 0} → Retained State Delta → Result (Stepped (Retained State Delta) Delta) StateRefused
redone retained = unless_last retained.number (redo_to retained retained.redoable)

-- ---- what holds of them

-- there are at most as many states on both sides as can be undone
abbrev pub AreFew : {State Delta : Type 0} → Retained State Delta → Type 0
AreFew retained = length retained.undoable + length retained.redoable ≤ max_undoable

-- a step leads to a state, with a delta
pub record Leads {State Delta : Type 0} (state : State) (delta : Delta) (stepped : Stepped (Retained State Delta) Delta) : Type 0 where
  pub latest : stepped.next.latest ≡ state
  pub separated : stepped.delta ≡ delta
