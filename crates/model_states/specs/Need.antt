-- The tiles of nodes that are needed for a rectangle of one of them, strip by strip.
use Rattle.std.specs.Prelude.{ℕ, suc, ◌==◌, nat_lt, if◌then◌else◌, List, [], ◌∷◌, ◌++◌, map, filter, reverse, take, length, slice_index_or, flat_map, Option, Some, None}
use Rattle.std.specs.List.{enumerate_from}
use Rattle.plane_rect.specs.Rectangle.{Rectangle, meet}
use Rattle.plane_rect.specs.Tile.{Tile, strip_rectangles, tile_square}
use Rattle.model_graphs.specs.declared.node.NodeFact.{NodeFact}
use Rattle.model_graphs.specs.Facts.{specs_of, stated_shapes}
use Rattle.model_graphs.specs.Shapes.{Shape, no_shape}
use Rattle.model_graphs.specs.Node.{Step, FromBuffer, Apply}
use Rattle.model_graphs.specs.Meanings.{Meanings}
use Rattle.model_states.specs.declared.strip.Strip.{Strip}
use Rattle.model_states.specs.Valid.{input_boxes, steps_of}
use Rattle.model_states.specs.Regions.{tiles_of_any}

-- a rectangle that is asked of a node, by the index of the node
abbrev pub Asked : Type 0
Asked = ℕ × Rectangle

-- a tile that is needed of a node, by the index of the node
abbrev pub Needed : Type 0
Needed = ℕ × Tile

-- the rectangles that are asked of a node
abbrev pub asked_of : List Asked → ℕ → List Rectangle
asked_of asked node = map (λ (a : Asked). a.1) (filter (λ (a : Asked). a.0 == node) asked)

-- what a part of the output asks of each input
abbrev pub asked_by_part : {Op : Type 0} → Meanings Op → List Shape → Op → List ℕ → Rectangle → List Asked
asked_by_part meanings shapes operation inputs part =
    map
    (λ (input : ℕ × ℕ). (input.1, meanings.required operation (input_boxes shapes inputs) input.0 part))
    (enumerate_from 0 inputs)

-- what tiles of a step's image ask, each for its part of the box
abbrev pub asked_by : {Op : Type 0} → Meanings Op → List Shape → Step Op → Rectangle → List Tile → List Asked
asked_by meanings shapes (FromBuffer buffer) box tiles = []
asked_by meanings shapes (Apply operation inputs) box tiles =
    flat_map (λ tile. asked_by_part meanings shapes operation inputs (meet (tile_square tile) box)) tiles

-- these tiles are needed of the step, unless it is a buffer
abbrev pub needed_of : {Op : Type 0} → ℕ → Step Op → List Tile → List Needed
needed_of node (FromBuffer buffer) tiles = []
needed_of node (Apply operation inputs) tiles = map (λ tile. (node, tile)) tiles

-- What is needed of steps, which are listed from the last to the first, where this is asked of them: in the order of
-- the nodes, those of a node row by row.
abbrev pub needed : {Op : Type 0} → Meanings Op → List Shape → List Asked → List (Step Op) → List Needed
needed meanings shapes asked [] = []
needed meanings shapes asked (step ∷ before) =
    let node = length before in
    let box = (slice_index_or shapes node no_shape).box in
    let tiles = tiles_of_any (asked_of asked node) in
    needed meanings shapes (asked ++ asked_by meanings shapes step box tiles) before ++ needed_of node step tiles

-- what is needed for a rectangle of the node at a position
abbrev pub strip_of : {Op : Type 0} → Meanings Op → List (NodeFact Op) → ℕ → Rectangle → Strip
strip_of meanings facts node rectangle =
    let shapes = stated_shapes facts in
    record {
      rect = rectangle;
      need =
          needed
          meanings
          shapes
          ((node, meet rectangle (slice_index_or shapes node no_shape).box) ∷ [])
          (reverse (take (suc node) (steps_of (specs_of facts))));
    }

-- The need of a request for the image of the node at a position.
abbrev pub need : {Op : Type 0} → Meanings Op → List (NodeFact Op) → ℕ → Rectangle → List Strip
need meanings facts node request = map (strip_of meanings facts node) (strip_rectangles request)

-- ---- strips that are too wide

-- the number of tiles of the first strip that needs more than a capacity
abbrev pub wide : ℕ → List Strip → Option ℕ
wide capacity [] = None
wide capacity (strip ∷ strips) =
    if nat_lt capacity (length strip.need) then Some (length strip.need) else wide capacity strips
