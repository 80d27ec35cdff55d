-- Valid nodes: each input stands earlier, each buffer is there, and each operation suits its inputs.
use Rattle.std.specs.Prelude.{◌≡◌, ℕ, ◌<◌, ◌≤◌, ⊤, List, [], ◌∷◌, ◌++◌, map, length, All, IsSome, IsSomeAnd, slice_index_or, unwrap_or}
use Rattle.std.specs.List.{IsDistinct, zip}
use Rattle.std.specs.Str.{bytes_eq}
use Rattle.pixel_formats.specs.Limits.{max_nodes}
use Rattle.plane_rect.specs.Rectangle.{Rectangle, InLimits}
use Rattle.pixel_formats.specs.declared.format.Format.{Format}
use Rattle.model_graphs.specs.declared.node.NodeFact.{NodeFact}
use Rattle.model_graphs.specs.Facts.{specs_of, stated_shapes}
use Rattle.model_graphs.specs.Node.{Node, Step, FromBuffer, Apply, step_of}
use Rattle.model_graphs.specs.Shapes.{Shape, Shapes, no_shape, shape_in}
use Rattle.model_graphs.specs.Meanings.{Meanings, result_box, result_format}

-- ---- shapes

-- the boxes and the formats of the inputs at these positions, among the shapes that are known
abbrev pub input_boxes : List Shape → List ℕ → List Rectangle
input_boxes known inputs = map (λ i. (slice_index_or known i no_shape).box) inputs

abbrev pub input_formats : List Shape → List ℕ → List Format
input_formats known inputs = map (λ i. (slice_index_or known i no_shape).format) inputs

-- the shape of an operation's image
abbrev pub operation_shape : {Op : Type 0} → Meanings Op → List Shape → Op → List ℕ → Shape
operation_shape meanings known operation inputs =
    record {
      box = result_box meanings operation (input_boxes known inputs);
      format = result_format meanings operation (input_formats known inputs);
    }

-- the shape of a step over buffers of these shapes, where those of the steps before it are known
abbrev pub step_shape : {Op : Type 0} → Meanings Op → Shapes → List Shape → Step Op → Shape
step_shape meanings shapes known (FromBuffer buffer) = unwrap_or (shape_in shapes buffer) no_shape
step_shape meanings shapes known (Apply operation inputs) = operation_shape meanings known operation inputs

-- the shapes of all steps, after those that are known
abbrev pub shapes_after : {Op : Type 0} → Meanings Op → Shapes → List Shape → List (Step Op) → List Shape
shapes_after meanings shapes known [] = known
shapes_after meanings shapes known (step ∷ steps) =
    shapes_after meanings shapes (known ++ step_shape meanings shapes known step ∷ []) steps

-- the nodes as steps
abbrev pub steps_of : {Op : Type 0} → List (Node Op) → List (Step Op)
steps_of {Op} nodes = map (λ (node : Node Op). step_of nodes node.body) nodes

-- the shapes of the nodes, in their order
abbrev pub shapes_of : {Op : Type 0} → Meanings Op → Shapes → List (Node Op) → List Shape
shapes_of meanings shapes nodes = shapes_after meanings shapes [] (steps_of nodes)

-- ---- valid nodes

-- an operation suits its inputs, which stand among so many nodes before it
pub record Suits {Op : Type 0} (meanings : Meanings Op) (known : List Shape) (operation : Op) (inputs : List ℕ) : Type 0 where
  pub inputs_earlier : All (λ i. i < length known) inputs
  pub arity : length inputs ≡ meanings.input_count operation
  pub format : IsSome (meanings.format operation (input_formats known inputs))
  pub box : IsSomeAnd (meanings.box operation (input_boxes known inputs)) InLimits

-- a step is valid after the steps whose shapes are known
abbrev pub IsValidStep : {Op : Type 0} → Meanings Op → Shapes → List Shape → Step Op → Type 0
IsValidStep meanings shapes known (FromBuffer buffer) = IsSome (shape_in shapes buffer)
IsValidStep meanings shapes known (Apply operation inputs) = Suits meanings known operation inputs

-- and each of these steps after those before it
abbrev pub AreValidSteps : {Op : Type 0} → Meanings Op → Shapes → List Shape → List (Step Op) → Type 0
AreValidSteps meanings shapes known [] = ⊤
AreValidSteps meanings shapes known (step ∷ steps) =
    IsValidStep meanings shapes known step
    × AreValidSteps meanings shapes (known ++ step_shape meanings shapes known step ∷ []) steps

-- the names of the nodes
abbrev pub node_names : {Op : Type 0} → List (Node Op) → List (List ℕ)
node_names {Op} nodes = map (λ (node : Node Op). node.name) nodes

pub record AreValid {Op : Type 0} (meanings : Meanings Op) (shapes : Shapes) (nodes : List (Node Op)) : Type 0 where
  pub few : length nodes ≤ max_nodes
  pub distinct : IsDistinct bytes_eq (node_names nodes)
  pub steps : AreValidSteps meanings shapes [] (steps_of nodes)

-- ---- stated nodes

-- a node with its shape
abbrev pub with_shape : {Op : Type 0} → Node Op × Shape → NodeFact Op
with_shape node = record { spec = node.0; bounds = node.1.box; format = node.1.format }

-- the nodes with the shapes that they have over buffers of these shapes
abbrev pub stated : {Op : Type 0} → Meanings Op → Shapes → List (Node Op) → List (NodeFact Op)
stated meanings shapes nodes = map with_shape (zip nodes (shapes_of meanings shapes nodes))

-- the nodes are valid, and their stated shapes are those that they have
pub record AreStated {Op : Type 0} (meanings : Meanings Op) (buffers : Shapes) (facts : List (NodeFact Op)) : Type 0 where
  pub valid : AreValid meanings buffers (specs_of facts)
  pub shapes : stated_shapes facts ≡ shapes_of meanings buffers (specs_of facts)
