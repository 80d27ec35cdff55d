-- What a need asks of nodes of operations, and the nodes that it names.
use Rattle.std.specs.Prelude.{ℕ, ◌<◌, List, [], map, flat_map, slice_index_or}
use Rattle.std.specs.List.{AllByRecursion, enumerate_from}
use Rattle.plane_rect.specs.Rectangle.{Rectangle, meet}
use Rattle.plane_rect.specs.Tile.{Tile, tile_square}
use Rattle.model_operations.specs.Regions.{required}
use Rattle.model_operations.specs.declared.operation.IntOp.{IntOp}
use Rattle.model_graphs.specs.Node.{Node, Step, FromBuffer}
use Rattle.model_states.specs.Valid.{steps_of}
use Rattle.model_states.specs.declared.strip.Strip.{Strip}
use Rattle.model_states.specs.Need.{Asked, Needed}

-- each position is below a number
abbrev pub AreBelow : ℕ → List Needed → Type 0
AreBelow end needed = AllByRecursion (λ (n : Needed). n.0 < end) needed

-- so in each strip
abbrev pub AreStripsBelow : ℕ → List Strip → Type 0
AreStripsBelow end strips = AllByRecursion (λ (strip : Strip). AreBelow end strip.need) strips

-- the step of the node at a position, and that of no buffer after the last
abbrev pub step_at : List (Node IntOp) → ℕ → Step IntOp
step_at nodes index = slice_index_or (steps_of nodes) index (FromBuffer [])

-- what a part of an operation's result asks of the inputs at these positions, over these boxes
abbrev pub asked_within : IntOp → List Rectangle → List ℕ → Rectangle → List Asked
asked_within op boxes indices part =
    map (λ (input : ℕ × ℕ). (input.1, required op boxes input.0 part)) (enumerate_from 0 indices)

-- what tiles ask, each for its part of the operation's box
abbrev pub asked_of_tiles : IntOp → List Rectangle → List ℕ → Rectangle → List Tile → List Asked
asked_of_tiles op boxes indices box tiles =
    flat_map (λ tile. asked_within op boxes indices (meet (tile_square tile) box)) tiles
