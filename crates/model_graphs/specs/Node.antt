-- Graphs: lists of nodes, in which each input of a node stands earlier. A name is its bytes.
use Rattle.std.specs.Prelude.{ℕ, List, map, length, unwrap_or, position}
use Rattle.model_graphs.specs.declared.node.Body.{Body}
use Rattle.model_graphs.specs.declared.node.Body.TheVariants.{Source, Compute}
use Rattle.model_graphs.specs.declared.node.NodeSpec.{NodeSpec}
use Rattle.std.specs.Str.{bytes_eq}

-- a node with its body: the image of a buffer, or an operation on the images of other nodes, in their order
abbrev pub Node : Type 0 → Type 0
Node Op = NodeSpec Op

-- the index of the first node of a name, and the number of nodes where there is none
abbrev pub index_of : {Op : Type 0} → List (Node Op) → List ℕ → ℕ
index_of {Op} nodes name = unwrap_or (position (λ (node : Node Op). bytes_eq node.name name) nodes) (length nodes)

-- a body whose inputs are positions in the list
pub data Step (Op : Type 0) : Type 0 where
  FromBuffer : List ℕ → Step Op
  Apply : Op → List ℕ → Step Op

abbrev pub step_of : {Op : Type 0} → List (Node Op) → Body Op → Step Op
step_of nodes (Source buffer) = FromBuffer buffer
step_of nodes (Compute operation inputs) = Apply operation (map (index_of nodes) inputs)
