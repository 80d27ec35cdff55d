-- Changes from one state to the next. Damage: where the image of a node may differ between the two. It reads no sample.
use Rattle.std.specs.Prelude.{◌≡◌, ℕ, Bool, true, false, ◌&&◌, not, if◌then◌else◌, List, [], ◌∷◌, ◌++◌, map, filter, length, Option, Some, None, slice_index_or}
use Rattle.std.specs.List.{AllByRecursion, list_all, enumerate_from}
use Rattle.std.specs.Str.{bytes_eq}
use Rattle.plane_rect.specs.Rectangle.{IsRectangle, Rectangle, empty, hull, meet, same_rectangle}
use Rattle.pixel_formats.specs.Format.{same_format}
use Rattle.model_graphs.specs.declared.buffer.BufferFact.{BufferFact}
use Rattle.model_graphs.specs.declared.node.Body.{Body}
use Rattle.model_graphs.specs.declared.node.Body.TheVariants.{Source, Compute}
use Rattle.model_graphs.specs.declared.node.NodeFact.{NodeFact}
use Rattle.model_graphs.specs.Facts.{Facts, fact_of, root_of, shape_of_fact, shapes_of_facts, specs_of, stated_shapes}
use Rattle.model_graphs.specs.Node.{Node, index_of}
use Rattle.model_graphs.specs.Shapes.{Shape, no_shape}
use Rattle.model_graphs.specs.Meanings.{Meanings}
use Rattle.model_states.specs.Edits.{has_node}
use Rattle.model_states.specs.Rectangles.{Rectangles, rectangle_of}
use Rattle.model_states.specs.Regions.{hull_of}
use Rattle.model_states.specs.State.{node_of}
use Rattle.model_states.specs.Valid.{AreStated, node_names}

-- ---- changes

-- what a graph knows of a state: facts of its buffers, and its nodes with their stated boxes and formats
pub record Side (Op : Type 0) : Type 0 where
  pub buffers : Facts
  pub nodes : List (NodeFact Op)

-- two states of which one follows the other, and the rectangles of root buffers that separate them
pub record Change (Op : Type 0) : Type 0 where
  pub old : Side Op
  pub new : Side Op
  pub rectangles : Rectangles

-- nothing changes
abbrev pub own_change : {Op : Type 0} → Side Op → Change Op
own_change side = record { old = side; new = side; rectangles = [] }

-- the same from the other side
abbrev pub reversed : {Op : Type 0} → Change Op → Change Op
reversed change = record { old = change.new; new = change.old; rectangles = change.rectangles }

-- a buffer in two states: one root, one box, one format
pub record IsSteady (old new : BufferFact) : Type 0 where
  pub root : old.root ≡ new.root
  pub shape : shape_of_fact old ≡ shape_of_fact new

-- each buffer that both states have is steady
abbrev pub AreSteady : Facts → Facts → Type 0
AreSteady old new =
    (name : List ℕ) (a b : BufferFact) → fact_of old name ≡ Some a → fact_of new name ≡ Some b → IsSteady a b

-- the nodes of a state are valid over its buffers, and stated as they are
abbrev pub IsStated : {Op : Type 0} → Meanings Op → Side Op → Type 0
IsStated meanings side = AreStated meanings (shapes_of_facts side.buffers) side.nodes

-- both states are valid, and buffers that both have are steady
pub record IsStatedChange {Op : Type 0} (meanings : Meanings Op) (change : Change Op) : Type 0 where
  pub old : IsStated meanings change.old
  pub new : IsStated meanings change.new
  pub steady : AreSteady change.old.buffers change.new.buffers

-- the stated boxes are rectangles of the plane
abbrev pub HaveRectangles : {Op : Type 0} → Side Op → Type 0
HaveRectangles {Op} side = AllByRecursion (λ (fact : NodeFact Op). IsRectangle fact.bounds) side.nodes

-- ---- what is the same in both

abbrev pub same_shape : Shape → Shape → Bool
same_shape a b = same_rectangle a.box b.box && same_format a.format b.format

abbrev pub same_names : List (List ℕ) → List (List ℕ) → Bool
same_names [] [] = true
same_names [] (other ∷ others) = false
same_names (name ∷ names) [] = false
same_names (name ∷ names) (other ∷ others) = bytes_eq name other && same_names names others

-- by a test that two operations are equal
abbrev pub same_body : {Op : Type 0} → (Op → Op → Bool) → Body Op → Body Op → Bool
same_body same (Source a) (Source b) = bytes_eq a b
same_body same (Source a) (Compute g bs) = false
same_body same (Compute f names) (Source b) = false
same_body same (Compute f names) (Compute g others) = same f g && same_names names others

-- ---- damage

-- the shape of the node of a name, and that of the image without a pixel where there is none
abbrev pub side_shape : {Op : Type 0} → Side Op → List ℕ → Shape
side_shape side name = slice_index_or (stated_shapes side.nodes) (index_of (specs_of side.nodes) name) no_shape

-- the inputs of a body
abbrev pub inputs_of : {Op : Type 0} → Body Op → List (List ℕ)
inputs_of (Source buffer) = []
inputs_of (Compute operation inputs) = inputs

-- the nodes of these names have the same shapes in both states
abbrev pub have_same_shapes : {Op : Type 0} → Change Op → List (List ℕ) → Bool
have_same_shapes change names =
    list_all (λ name. same_shape (side_shape change.old name) (side_shape change.new name)) names

-- a node of the new state has the body and the shapes of inputs that the old one of its name has, where there is one
abbrev pub is_unedited : {Op : Type 0} → (Op → Op → Bool) → Change Op → Node Op → Option (Node Op) → Bool
is_unedited same change node None = false
is_unedited same change node (Some old) = same_body same old.body node.body && have_same_shapes change (inputs_of node.body)

-- the boxes of the new state's nodes of these names
abbrev pub new_boxes : {Op : Type 0} → Change Op → List (List ℕ) → List Rectangle
new_boxes change names = map (λ name. (side_shape change.new name).box) names

-- the damage of the new state's node of a name, among those that are known
abbrev pub known_damage : {Op : Type 0} → Change Op → List Rectangle → List ℕ → Rectangle
known_damage change known name = slice_index_or known (index_of (specs_of change.new.nodes) name) empty

-- what the damage of each input invalidates, where that is reported by names
abbrev pub invalidated_by : {Op : Type 0} → Meanings Op → Op → List Rectangle → (List ℕ → Rectangle) → List (List ℕ) → List Rectangle
invalidated_by meanings operation boxes hurt inputs =
    map
    (λ (input : ℕ × List ℕ). meanings.invalidated operation boxes input.0 (hurt input.1))
    (enumerate_from 0 inputs)

-- what the damage of the inputs invalidates of a node of this box, or what the rectangle of a root is of it
abbrev pub damage_passed_on : {Op : Type 0} → Meanings Op → Change Op → List Rectangle → Rectangle → Body Op → Rectangle
damage_passed_on meanings change known box (Source buffer) =
    meet (rectangle_of change.rectangles (root_of change.new.buffers buffer)) box
damage_passed_on meanings change known box (Compute operation inputs) =
    hull_of (invalidated_by meanings operation (new_boxes change inputs) (known_damage change known) inputs)

-- the shape of the new state's node at a position
abbrev pub new_shape : {Op : Type 0} → Change Op → ℕ → Shape
new_shape change position = slice_index_or (stated_shapes change.new.nodes) position no_shape

-- the damage of a node of the new state, where that of the nodes before it is known
abbrev pub damage_of_node : {Op : Type 0} → (Op → Op → Bool) → Meanings Op → Change Op → List Rectangle → Node Op → Rectangle
damage_of_node same meanings change known node =
    let box = (new_shape change (length known)).box in
    if is_unedited same change node (node_of (specs_of change.old.nodes) node.name)
    then damage_passed_on meanings change known box node.body
    else hull (side_shape change.old node.name).box box

-- the damages of these nodes, after those that are known
abbrev pub damages_after : {Op : Type 0} → (Op → Op → Bool) → Meanings Op → Change Op → List Rectangle → List (Node Op) → List Rectangle
damages_after same meanings change known [] = known
damages_after same meanings change known (node ∷ nodes) =
    damages_after same meanings change (known ++ damage_of_node same meanings change known node ∷ []) nodes

-- the damages of the new state's nodes, in their order
abbrev pub damages : {Op : Type 0} → (Op → Op → Bool) → Meanings Op → Change Op → List Rectangle
damages same meanings change = damages_after same meanings change [] (specs_of change.new.nodes)

-- The damage of the node of a name. That of a node that is gone is its box.
abbrev pub damage : {Op : Type 0} → (Op → Op → Bool) → Meanings Op → Change Op → List ℕ → Rectangle
damage same meanings change name =
    slice_index_or
    (damages same meanings change)
    (index_of (specs_of change.new.nodes) name)
    (side_shape change.old name).box

-- the names of the nodes that are gone, in their order
abbrev pub gone_names : {Op : Type 0} → Change Op → List (List ℕ)
gone_names change =
    filter (λ name. not (has_node (specs_of change.new.nodes) name)) (node_names (specs_of change.old.nodes))

-- The damage of each node of either state: of the new nodes in their order, and then of those that are gone.
abbrev pub damage_list : {Op : Type 0} → (Op → Op → Bool) → Meanings Op → Change Op → Rectangles
damage_list same meanings change =
    map
    (λ name. (name, damage same meanings change name))
    (node_names (specs_of change.new.nodes) ++ gone_names change)
