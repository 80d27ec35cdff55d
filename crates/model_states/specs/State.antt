-- States of a graph: what its buffers and its nodes are, and the images of the nodes.
use Rattle.std.specs.Prelude.{ℕ, List, map, [], slice_get, slice_index_or, Option}
use Rattle.model_images.specs.Image.{Image}
use Rattle.model_graphs.specs.declared.node.Body.{Body}
use Rattle.model_graphs.specs.declared.node.Body.TheVariants.{Source, Compute}
use Rattle.model_graphs.specs.declared.node.NodeFact.{NodeFact}
use Rattle.model_graphs.specs.Node.{Node, index_of}
use Rattle.model_graphs.specs.Evaluation.{Buffers, buffer_image, evaluated, images_after}
use Rattle.model_graphs.specs.Shapes.{Shape, no_shape, shapes_of_images}
use Rattle.model_graphs.specs.Meanings.{Meanings, result_of}
use Rattle.model_states.specs.Valid.{AreValid, shapes_of, stated, steps_of}

-- A table of buffers, of whatever type, and the nodes over it.
pub record State (Table Op : Type 0) : Type 0 where
  pub table : Table
  pub nodes : List (Node Op)

-- a state of which the images of the buffers are known
abbrev pub Scene : Type 0 → Type 0
Scene Op = State Buffers Op

-- its nodes are valid over its buffers
abbrev pub IsValidScene : {Op : Type 0} → Meanings Op → Scene Op → Type 0
IsValidScene meanings scene = AreValid meanings (shapes_of_images scene.table) scene.nodes

-- the images of the nodes, in their order
abbrev pub node_images : {Op : Type 0} → Meanings Op → Scene Op → List Image
node_images meanings scene = images_after (result_of meanings) scene.table [] (steps_of scene.nodes)

-- the image of the node of a name
abbrev pub image_of : {Op : Type 0} → Meanings Op → Scene Op → List ℕ → Image
image_of meanings scene name = evaluated (result_of meanings) scene.table scene.nodes name

-- the box and the format of each node, in their order
abbrev pub node_shapes : {Op : Type 0} → Meanings Op → Scene Op → List Shape
node_shapes meanings scene = shapes_of meanings (shapes_of_images scene.table) scene.nodes

-- those of the node of a name
abbrev pub shape_of : {Op : Type 0} → Meanings Op → Scene Op → List ℕ → Shape
shape_of meanings scene name =
    slice_index_or (node_shapes meanings scene) (index_of scene.nodes name) no_shape

-- the nodes with their boxes and formats
abbrev pub stated_nodes : {Op : Type 0} → Meanings Op → Scene Op → List (NodeFact Op)
stated_nodes meanings scene = stated meanings (shapes_of_images scene.table) scene.nodes

-- the node of a name
abbrev pub node_of : {Op : Type 0} → List (Node Op) → List ℕ → Option (Node Op)
node_of nodes name = slice_get nodes (index_of nodes name)

-- what a body makes of the images of its inputs
abbrev pub body_image : {Op : Type 0} → Meanings Op → Scene Op → Body Op → Image
body_image meanings scene (Source buffer) = buffer_image scene.table buffer
body_image meanings scene (Compute operation inputs) =
    result_of meanings operation (map (image_of meanings scene) inputs)
