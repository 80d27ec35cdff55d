-- What a graph knows of its buffers: names, roots, boxes and formats, and no samples.
use Rattle.std.specs.Prelude.{◌≡◌, ℕ, List, map, Option, option_map, unwrap_or, []}
use Rattle.std.specs.List.{find}
use Rattle.std.specs.Str.{bytes_eq}
use Rattle.plane_rect.specs.Rectangle.{Rectangle}
use Rattle.model_graphs.specs.declared.buffer.BufferFact.{BufferFact}
use Rattle.model_graphs.specs.declared.buffer.Edited.{Edited}
use Rattle.model_graphs.specs.declared.node.NodeFact.{NodeFact}
use Rattle.model_graphs.specs.Evaluation.{Buffers}
use Rattle.model_graphs.specs.Node.{Node}
use Rattle.model_graphs.specs.Shapes.{Shape, Shapes, shapes_of_images}

-- ---- buffers

abbrev pub Facts : Type 0
Facts = List BufferFact

-- the fact of the first buffer of a name
abbrev pub fact_of : Facts → List ℕ → Option BufferFact
fact_of facts name = find (λ (fact : BufferFact). bytes_eq name fact.name) facts

abbrev pub shape_of_fact : BufferFact → Shape
shape_of_fact fact = record { box = fact.bounds; format = fact.format }

-- the shapes of the buffers, by their names
abbrev pub shapes_of_facts : Facts → Shapes
shapes_of_facts facts = map (λ (fact : BufferFact). (fact.name, shape_of_fact fact)) facts

-- the names, in their order
abbrev pub fact_names : Facts → List (List ℕ)
fact_names facts = map (λ (fact : BufferFact). fact.name) facts

-- these are images of the buffers, in their order
abbrev pub AreImagesOf : Facts → Buffers → Type 0
AreImagesOf facts images = shapes_of_images images ≡ shapes_of_facts facts

-- the root of the buffer of a name
abbrev pub root_of : Facts → List ℕ → List ℕ
root_of facts name = unwrap_or (option_map (λ (fact : BufferFact). fact.root) (fact_of facts name)) []

-- the rectangles that were written, by their roots
abbrev pub rectangles_of : List Edited → List (List ℕ × Rectangle)
rectangles_of edited = map (λ (written : Edited). (written.root, written.rect)) edited

-- ---- nodes

-- the nodes, without what is stated of them
abbrev pub specs_of : {Op : Type 0} → List (NodeFact Op) → List (Node Op)
specs_of {Op} facts = map (λ (fact : NodeFact Op). fact.spec) facts

-- the shape that is stated of a node
abbrev pub stated_shape : {Op : Type 0} → NodeFact Op → Shape
stated_shape fact = record { box = fact.bounds; format = fact.format }

-- the shapes that are stated, in the order of the nodes
abbrev pub stated_shapes : {Op : Type 0} → List (NodeFact Op) → List Shape
stated_shapes {Op} facts = map (λ (fact : NodeFact Op). stated_shape fact) facts
