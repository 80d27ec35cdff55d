-- States of graphs, and what edits make of them.
use Rattle.std.specs.Prelude.{List, Result, Ok, Err}
use Rattle.std.specs.List.{AllByRecursion}
use Rattle.plane_rect.specs.Rectangle.{IsRectangle}
use Rattle.model_graphs.specs.declared.node.NodeEdit.{NodeEdit}
use Rattle.model_graphs.specs.Facts.{Facts, shapes_of_facts, specs_of}
use Rattle.model_graphs.specs.Meanings.{Meanings}
use Rattle.model_graphs.specs.Node.{Node, Step}
use Rattle.model_graphs.specs.Shapes.{Shape, Shapes}
use Rattle.model_states.specs.declared.refused.StateRefused.{StateRefused}
use Rattle.model_states.specs.Commits.{side_of}
use Rattle.model_states.specs.Damage.{HaveRectangles, IsStated, Side}
use Rattle.model_states.specs.Edits.{edited, step_refused, steps_refused, unless_refused}
use Rattle.model_states.specs.Valid.{shapes_after, step_shape}

-- What holds of each state: its nodes are valid over its buffers and stated as they are, and their boxes are rectangles.
pub record IsGraphState {Op : Type 0} (meanings : Meanings Op) (side : Side Op) : Type 0 where
  pub stated : IsStated meanings side
  pub rectangles : HaveRectangles side

-- ---- edits

-- the state of these nodes over buffers, or why they are refused
abbrev pub side_of_result : {Op : Type 0} → Meanings Op → Facts → Result (List (Node Op)) StateRefused → Result (Side Op) StateRefused
side_of_result meanings buffers (Ok nodes) = Ok (side_of meanings buffers nodes)
side_of_result meanings buffers (Err refused) = Err refused

-- the state after edits of a state's nodes over other buffers
abbrev pub edited_side : {Op : Type 0} → Meanings Op → Side Op → List (NodeEdit Op) → Facts → Result (Side Op) StateRefused
edited_side meanings side edits buffers =
    side_of_result meanings buffers (edited meanings (shapes_of_facts buffers) (specs_of side.nodes) edits)

-- ---- the walk

-- the shape of a step after steps of these shapes, unless the step is refused
abbrev pub shape_unless_refused : {Op : Type 0} → Meanings Op → Shapes → List Shape → Step Op → Result Shape StateRefused
shape_unless_refused meanings buffers known step =
    unless_refused (step_refused meanings buffers known step) (step_shape meanings buffers known step)

-- the shapes of all steps, after those that are known, unless one is refused
abbrev pub shapes_unless_refused : {Op : Type 0} → Meanings Op → Shapes → List Shape → List (Step Op) → Result (List Shape) StateRefused
shapes_unless_refused meanings buffers known steps =
    unless_refused (steps_refused meanings buffers known steps) (shapes_after meanings buffers known steps)

-- the boxes of shapes are rectangles of the plane
abbrev pub HaveRectangularBoxes : List Shape → Type 0
HaveRectangularBoxes shapes = AllByRecursion (λ (shape : Shape). IsRectangle shape.box) shapes
