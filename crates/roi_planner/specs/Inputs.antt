-- Nodes by their positions: what their inputs are, and that an operation suits them.
use Rattle.std.specs.Prelude.{◌≡◌, ℕ, ◌<◌, List, [], map, length, ⊤, All, IsSome, slice_index_or}
use Rattle.plane_rect.specs.Rectangle.{Rectangle}
use Rattle.model_graphs.specs.declared.node.Body.{Body}
use Rattle.model_graphs.specs.declared.node.Body.TheVariants.{Source, Compute}
use Rattle.model_graphs.specs.declared.node.NodeFact.{NodeFact}
use Rattle.model_graphs.specs.Facts.{specs_of, stated_shapes}
use Rattle.model_graphs.specs.Meanings.{Meanings}
use Rattle.model_graphs.specs.Node.{FromBuffer, Step, index_of}
use Rattle.model_graphs.specs.Shapes.{Shapes, no_shape}
use Rattle.model_states.specs.Valid.{AreStated, input_boxes, steps_of}
use Rattle.op_contracts.specs.Applying.{bounds_of}

-- Over some buffers the nodes are valid, with their stated boxes and formats.
abbrev pub AreStatedOverSome : {Op : Type 0} → Meanings Op → List (NodeFact Op) → Type 0
AreStatedOverSome meanings facts = (buffers : Shapes) × AreStated meanings buffers facts

-- the step of the node at a position, and that of no buffer after the last
abbrev pub step_at : {Op : Type 0} → List (NodeFact Op) → ℕ → Step Op
step_at facts node = slice_index_or (steps_of (specs_of facts)) node (FromBuffer [])

-- the stated box of the node at a position
abbrev pub box_at : {Op : Type 0} → List (NodeFact Op) → ℕ → Rectangle
box_at facts node = (slice_index_or (stated_shapes facts) node no_shape).box

-- the positions of a node's inputs among the nodes, and their boxes
pub record Inputs : Type 0 where
  pub positions : List ℕ
  pub boxes : List Rectangle

-- those of a body: a source has none
abbrev pub inputs_of : {Op : Type 0} → List (NodeFact Op) → Body Op → Inputs
inputs_of facts (Source buffer) = record { positions = []; boxes = [] }
inputs_of facts (Compute operation names) =
    record {
      positions = map (index_of (specs_of facts)) names;
      boxes = input_boxes (stated_shapes facts) (map (index_of (specs_of facts)) names);
    }

-- those of some of the nodes, and of each
abbrev pub inputs_among : {Op : Type 0} → List (NodeFact Op) → List (NodeFact Op) → List Inputs
inputs_among {Op} facts some = map (λ (fact : NodeFact Op). inputs_of facts fact.spec.body) some

abbrev pub all_inputs : {Op : Type 0} → List (NodeFact Op) → List Inputs
all_inputs facts = inputs_among facts facts

-- An operation has a box over these inputs, of which there are as many as it takes, and they are among so many nodes.
pub record SuitsInputs {Op : Type 0} (meanings : Meanings Op) (operation : Op) (inputs : Inputs) (count : ℕ) : Type 0 where
  pub arity : length inputs.positions ≡ meanings.input_count operation
  pub boxes : length inputs.boxes ≡ meanings.input_count operation
  pub bounds : IsSome (bounds_of meanings operation inputs.boxes)
  pub among : All (λ position. position < count) inputs.positions

-- The same of a body: a source asks nothing.
abbrev pub SuitsBody : {Op : Type 0} → Meanings Op → Body Op → Inputs → ℕ → Type 0
SuitsBody meanings (Source buffer) inputs count = ⊤
SuitsBody meanings (Compute operation names) inputs count = SuitsInputs meanings operation inputs count
