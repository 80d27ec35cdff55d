-- What is edited and what was committed, of whatever type: one value as it is edited, and those of the retained states.
use Rattle.std.specs.Prelude.{◌≡◌, List, [], ◌∷◌, ◌++◌, map, take}
use Rattle.pixel_formats.specs.Limits.{max_undoable}
use Rattle.model_states.specs.declared.direction.Direction.{Direction}
use Rattle.model_states.specs.Directions.{by_direction}

-- The value as it is edited, that of the last state, and those of the states that can be undone and redone to, the next
-- one first.
pub record Versions (X : Type 0) : Type 0 where
  pub working : X
  pub latest : X
  pub undoable : List X
  pub redoable : List X

-- a first state, that is edited from then on
abbrev pub new_versions : {X : Type 0} → X → Versions X
new_versions x = record { working = x; latest = x; undoable = []; redoable = [] }

-- those of the states
abbrev pub committed_versions : {X : Type 0} → Versions X → List X
committed_versions versions = versions.latest ∷ (versions.undoable ++ versions.redoable)

-- all of them
abbrev pub all_versions : {X : Type 0} → Versions X → List X
all_versions versions = versions.working ∷ committed_versions versions

-- what is seen of each
abbrev pub map_versions : {X Y : Type 0} → (X → Y) → Versions X → Versions Y
map_versions f versions = record {
  working = f versions.working;
  latest = f versions.latest;
  undoable = map f versions.undoable;
  redoable = map f versions.redoable;
}

-- a value that is among some
pub record IsOneOf {X : Type 0} (x : X) (all : List X) : Type 0 where
  pub before : List X
  pub after : List X
  pub parts : all ≡ before ++ x ∷ after

-- ---- steps

-- The working value is committed: the one before it can be undone to, the oldest is dropped past the largest number, and
-- nothing can be redone.
abbrev pub after_commit : {X : Type 0} → Versions X → Versions X
after_commit versions = record {
  working = versions.working;
  latest = versions.working;
  undoable = take max_undoable (versions.latest ∷ versions.undoable);
  redoable = [];
}

-- those of the states to which an undo or a redo leads, the next one first
abbrev pub versions_ahead : {X : Type 0} → Direction → Versions X → List X
versions_ahead direction versions = by_direction direction versions.undoable versions.redoable

-- those of the states to which the other one leads
abbrev pub versions_behind : {X : Type 0} → Direction → Versions X → List X
versions_behind direction versions = by_direction direction versions.redoable versions.undoable

-- An undo or a redo to a state, behind which these are left: what is edited goes.
abbrev pub versions_after : {X : Type 0} → Direction → Versions X → X → List X → Versions X
versions_after direction versions next rest = record {
  working = next;
  latest = next;
  undoable = by_direction direction rest (versions.latest ∷ versions.undoable);
  redoable = by_direction direction (versions.latest ∷ versions.redoable) rest;
}

-- The first of those ahead is that of the last state, and the one that was is the first of those behind.
pub record IsMoved {X : Type 0} (direction : Direction) (old new : Versions X) : Type 0 where
  pub taken : versions_ahead direction old ≡ new.latest ∷ versions_ahead direction new
  pub put : versions_behind direction new ≡ old.latest ∷ versions_behind direction old
  pub working : new.working ≡ old.working
