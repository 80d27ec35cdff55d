-- Edits of the nodes of a graph, and why one is refused.
use Rattle.std.specs.Prelude.{ℕ, suc, ◌&&◌, ◌==◌, Bool, false, not, is_some, nat_lt, if◌then◌else◌, List, [], ◌∷◌, ◌++◌, take, drop, remove, length, Option, Some, None, Result, Ok, Err, is_none}
use Rattle.std.specs.List.{list_any, list_all}
use Rattle.std.specs.Option.{option_or, option_map_or}
use Rattle.std.specs.Str.{bytes_eq}
use Rattle.plane_rect.specs.Rectangle.{Rectangle, in_limits}
use Rattle.model_graphs.specs.declared.node.Body.{Body}
use Rattle.model_graphs.specs.declared.node.Body.TheVariants.{Source, Compute}
use Rattle.model_graphs.specs.declared.node.NodeEdit.{NodeEdit}
use Rattle.model_graphs.specs.declared.node.NodeEdit.TheVariants.{Set, Remove}
use Rattle.model_graphs.specs.Node.{Node, Step, FromBuffer, Apply, index_of}
use Rattle.model_graphs.specs.Shapes.{Shape, Shapes, shape_in}
use Rattle.model_graphs.specs.Meanings.{Meanings}
use Rattle.pixel_formats.specs.Limits.{max_nodes}
use Rattle.model_states.specs.declared.refused.StateRefused.{StateRefused}
use Rattle.model_states.specs.declared.refused.StateRefused.TheVariants.{UnknownInput, Arity, Formats, Bounds, InUse, TooManyNodes}
use Rattle.model_states.specs.Valid.{step_shape, steps_of, input_boxes, input_formats}

-- ---- an edit

-- a node of the name is there
abbrev pub has_node : {Op : Type 0} → List (Node Op) → List ℕ → Bool
has_node nodes name = nat_lt (index_of nodes name) (length nodes)

-- a body reads only buffers that are there, and nodes that stand before a position
abbrev pub reads_earlier : {Op : Type 0} → Shapes → List (Node Op) → ℕ → Body Op → Bool
reads_earlier shapes nodes index (Source buffer) = is_some (shape_in shapes buffer)
reads_earlier shapes nodes index (Compute operation inputs) =
    list_all (λ input. nat_lt (index_of nodes input) index) inputs

-- a node of the name is an input of the body
abbrev pub reads_node : {Op : Type 0} → List ℕ → Body Op → Bool
reads_node name (Source buffer) = false
reads_node name (Compute operation inputs) = list_any (bytes_eq name) inputs

-- why an edit is refused, where it is
abbrev pub edit_refused : {Op : Type 0} → Shapes → List (Node Op) → NodeEdit Op → Option StateRefused
edit_refused shapes nodes (Set node) =
    if not (reads_earlier shapes nodes (index_of nodes node.name) node.body) then Some UnknownInput
    else if not (has_node nodes node.name) && length nodes == max_nodes then Some TooManyNodes
    else None
edit_refused {Op} shapes nodes (Remove name) =
    if not (has_node nodes name) then Some UnknownInput
    else if list_any (λ (node : Node Op). reads_node name node.body) nodes then Some InUse
    else None

-- the nodes with an edit made
abbrev pub with_edit : {Op : Type 0} → List (Node Op) → NodeEdit Op → List (Node Op)
with_edit nodes (Set node) =
    take (index_of nodes node.name) nodes ++ node ∷ drop (suc (index_of nodes node.name)) nodes
with_edit nodes (Remove name) = remove nodes (index_of nodes name)

-- a value, or else why it is refused
abbrev pub unless_refused : {A : Type 0} → Option StateRefused → A → Result A StateRefused
unless_refused None a = Ok a
unless_refused (Some refused) a = Err refused

-- the nodes with one edit more, unless one before it was refused or it is
abbrev pub then_edit : {Op : Type 0} → Shapes → Result (List (Node Op)) StateRefused → NodeEdit Op → Result (List (Node Op)) StateRefused
then_edit shapes (Ok nodes) edit = unless_refused (edit_refused shapes nodes edit) (with_edit nodes edit)
then_edit shapes (Err refused) edit = Err refused

-- the nodes with these edits made, one by one
abbrev pub with_edits : {Op : Type 0} → Shapes → Result (List (Node Op)) StateRefused → List (NodeEdit Op) → Result (List (Node Op)) StateRefused
with_edits shapes nodes [] = nodes
with_edits shapes nodes (edit ∷ edits) = with_edits shapes (then_edit shapes nodes edit) edits

-- ---- the walk over all nodes after the edits

-- a box that is there and in limits
abbrev pub is_box_in_limits : Option Rectangle → Bool
is_box_in_limits box = option_map_or in_limits box false

-- why a step is refused after steps of these shapes, where it is
abbrev pub step_refused : {Op : Type 0} → Meanings Op → Shapes → List Shape → Step Op → Option StateRefused
step_refused meanings shapes known (FromBuffer buffer) =
    if is_none (shape_in shapes buffer) then Some UnknownInput else None
step_refused meanings shapes known (Apply operation inputs) =
    if not (list_all (λ i. nat_lt i (length known)) inputs) then Some UnknownInput
    else if not (length inputs == meanings.input_count operation) then Some Arity
    else if is_none (meanings.format operation (input_formats known inputs)) then Some Formats
    else if not (is_box_in_limits (meanings.box operation (input_boxes known inputs))) then Some Bounds
    else None

-- why the first step that is refused is, where one is
abbrev pub steps_refused : {Op : Type 0} → Meanings Op → Shapes → List Shape → List (Step Op) → Option StateRefused
steps_refused meanings shapes known [] = None
steps_refused meanings shapes known (step ∷ steps) =
    option_or
    (step_refused meanings shapes known step)
    (steps_refused meanings shapes (known ++ step_shape meanings shapes known step ∷ []) steps)

-- nodes with edits made, unless the walk refuses one
abbrev pub walked : {Op : Type 0} → Meanings Op → Shapes → Result (List (Node Op)) StateRefused → Result (List (Node Op)) StateRefused
walked meanings shapes (Ok nodes) = unless_refused (steps_refused meanings shapes [] (steps_of nodes)) nodes
walked meanings shapes (Err refused) = Err refused

-- The nodes with these edits made one by one, each refused or not, and then walked from the first node on.
abbrev pub edited : {Op : Type 0} → Meanings Op → Shapes → List (Node Op) → List (NodeEdit Op) → Result (List (Node Op)) StateRefused
edited meanings shapes nodes edits = walked meanings shapes (with_edits shapes (Ok nodes) edits)
