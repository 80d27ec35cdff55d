-- What holds of graphs, and what the damage of a step promises.
use Rattle.std.specs.Prelude.{◌≡◌, ◌&&◌, false, ℕ, ⊤, Bool, List, [], ◌∷◌, Ok, Some}
use Rattle.std.specs.Option.{option_map_or}
use Rattle.std.specs.Str.{bytes_eq}
use Rattle.model_graphs.specs.declared.buffer.BufferFact.{BufferFact}
use Rattle.model_graphs.specs.Evaluation.{Buffers}
use Rattle.model_graphs.specs.Facts.{AreImagesOf, Facts, fact_of, shape_of_fact}
use Rattle.model_graphs.specs.Meanings.{Meanings}
use Rattle.model_states.specs.Commits.{Graph, change_to}
use Rattle.model_states.specs.Damage.{AreSteady, Change, IsStatedChange, IsSteady, Side, damage, damage_list, same_shape}
use Rattle.model_states.specs.Neighbors.{AgreeOutsideRoots, SamplesAgreeOutside, scene_of_side}
use Rattle.model_states.specs.Rectangles.{Rectangles, rectangle_of}
use Rattle.model_states.specs.Retained.{AreFew, Separated}
use Rattle.model_states.specs.State.{image_of}
use Rattle.model_states.specs.declared.direction.Direction.{Direction}
use Rattle.model_states.specs.declared.direction.Direction.TheVariants.{Undo, Redo}
use Rattle.model_states.specs.Directions.{commit_between, stepped}
use Rattle.graph_commits.specs.States.{IsGraphState}

-- each buffer of a table is among these, with the same root, box and format
abbrev pub AreStillThere : Facts → Facts → Type 0
AreStillThere old new = (name : List ℕ) (a : BufferFact) → fact_of old name ≡ Some a → (b : BufferFact) × (fact_of new name ≡ Some b) × IsSteady a b

-- the test of one buffer
abbrev pub is_still_there : Facts → BufferFact → Bool
is_still_there facts fact =
    option_map_or (λ (found : BufferFact). bytes_eq fact.root found.root && same_shape (shape_of_fact fact) (shape_of_fact found)) (fact_of facts fact.name) false

-- ---- the damage of a step

-- Whatever the images of the buffers are, if those of each buffer that both states have agree outside the rectangle of
-- its root, then the images of each node agree outside the node's rectangle.
abbrev pub AreUnchangedOutside : {Op : Type 0} → Meanings Op → Change Op → Rectangles → Type 0
AreUnchangedOutside meanings change damages =
    (old new : Buffers) (name : List ℕ) → AreImagesOf change.old.buffers old → AreImagesOf change.new.buffers new →
    AgreeOutsideRoots change.old.buffers change.new.buffers old new change.rectangles →
    SamplesAgreeOutside
    (image_of meanings (scene_of_side change.old old) name)
    (image_of meanings (scene_of_side change.new new) name)
    (rectangle_of damages name)

-- rectangles by the names of nodes are the damages of a change, and outside of them nothing changes
pub record AreDamagesOf {Op : Type 0} (same : Op → Op → Bool) (meanings : Meanings Op) (change : Change Op) (damages : Rectangles) : Type 0 where
  pub stated : IsStatedChange meanings change
  pub each : (name : List ℕ) → rectangle_of damages name ≡ damage same meanings change name
  pub unchanged : AreUnchangedOutside meanings change damages

-- ---- graphs

-- A state and the next one, and the damage of the change from the one to the other, by some rectangles of roots.
pub record IsStep {Op : Type 0} (same : Op → Op → Bool) (meanings : Meanings Op) (old new : Side Op) (delta : Rectangles) : Type 0 where
  pub steady : AreSteady old.buffers new.buffers
  pub damage : (written : Rectangles) × (delta ≡ damage_list same meanings (record { old = old; new = new; rectangles = written }))

-- A step back or on from a state to the next one: its damage is that of the commit between the two.
abbrev pub IsStepIn : {Op : Type 0} → Direction → (Op → Op → Bool) → Meanings Op → Side Op → Side Op → Rectangles → Type 0
IsStepIn Undo same meanings latest next delta = IsStep same meanings next latest delta
IsStepIn Redo same meanings latest next delta = IsStep same meanings latest next delta

-- states ahead of one, the next first, each with the damage of the commit between it and the one before it
abbrev pub AreAhead : {Op : Type 0} → Direction → (Op → Op → Bool) → Meanings Op → Side Op → List (Separated (Side Op) Rectangles) → Type 0
AreAhead direction same meanings latest [] = ⊤
AreAhead direction same meanings latest (next ∷ rest) =
    IsGraphState meanings next.state × IsStepIn direction same meanings latest next.state next.delta × AreAhead direction same meanings next.state rest

-- What holds of each graph: all its states are valid, what separates them is their damage, and they are few.
pub record IsGraph {Op : Type 0} (same : Op → Op → Bool) (meanings : Meanings Op) (graph : Graph Op) : Type 0 where
  pub latest : IsGraphState meanings graph.latest
  pub undoable : AreAhead Undo same meanings graph.latest graph.undoable
  pub redoable : AreAhead Redo same meanings graph.latest graph.redoable
  pub few : AreFew graph

-- ---- steps

-- What a step answers: the graph that an undo or a redo makes, under its number, and by whichever rectangles of roots its
-- rectangles are the damage of the commit that is undone or made again, they are the damage of the step.
pub record IsAnswered {Op : Type 0} (same : Op → Op → Bool) (meanings : Meanings Op) (direction : Direction) (old new : Graph Op) (number : ℕ) (delta : Rectangles) : Type 0 where
  pub made : stepped direction old ≡ Ok (record { next = new; delta = delta })
  pub numbered : number ≡ new.number
  pub damages : (written : Rectangles) → delta ≡ damage_list same meanings (commit_between direction old.latest new.latest written) →
      AreDamagesOf same meanings (change_to old new.latest written) delta
  pub by_some : (written : Rectangles) × AreDamagesOf same meanings (change_to old new.latest written) delta
