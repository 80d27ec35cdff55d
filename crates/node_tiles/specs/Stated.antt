-- The tiles of stated nodes, by the positions of the nodes.
use Rattle.std.specs.Prelude.{◌≡◌, ℕ, ◌*◌, ◌<◌, ◌⊎◌, IsSome, IsTrue, List, length, slice_get, slice_index_or, Some}
use Rattle.plane_rect.specs.Rectangle.{Rectangle, meet}
use Rattle.plane_rect.specs.Tile.{Tile, tile_square, meets}
use Rattle.pixel_formats.specs.Format.{pixel_bytes}
use Rattle.model_graphs.specs.declared.node.NodeFact.{NodeFact}
use Rattle.model_graphs.specs.Evaluation.{Buffers}
use Rattle.model_graphs.specs.Facts.{specs_of, stated_shapes}
use Rattle.model_graphs.specs.Meanings.{Meanings}
use Rattle.model_graphs.specs.Node.{Apply}
use Rattle.model_graphs.specs.Shapes.{Shape, no_shape}
use Rattle.model_states.specs.Cache.{pair_bytes, pair_of}
use Rattle.model_states.specs.Serving.{IsSourceAt}
use Rattle.model_states.specs.State.{Scene}
use Rattle.model_states.specs.Valid.{input_boxes, steps_of}
use Rattle.node_tiles.specs.Held.{HeldTiles, held_bytes}

-- the shape that is stated of the node at a position
abbrev pub shape_at : {Op : Type 0} → List (NodeFact Op) → ℕ → Shape
shape_at facts node = slice_index_or (stated_shapes facts) node no_shape

-- how many bytes a tile of it has
abbrev pub length_at : {Op : Type 0} → List (NodeFact Op) → ℕ → ℕ
length_at facts node = 4096 * pixel_bytes (shape_at facts node).format

-- the nodes over these images of their buffers
abbrev pub scene_of : {Op : Type 0} → List (NodeFact Op) → Buffers → Scene Op
scene_of facts images = record { table = images; nodes = specs_of facts }

-- the bytes of a tile of the image of the node at a position
abbrev pub bytes_at : {Op : Type 0} → Meanings Op → List (NodeFact Op) → Buffers → ℕ → Tile → List ℕ
bytes_at meanings facts images node tile =
    pair_bytes meanings (scene_of facts images) (pair_of (specs_of facts) (node, tile))

-- Each held tile has as many bytes as one of its node has.
pub record HaveLengths {Op : Type 0} (facts : List (NodeFact Op)) (held : HeldTiles) : Type 0 where
  pub each : (node : ℕ) (tile : Tile) (bytes : List ℕ) → held_bytes held node tile ≡ Some bytes → length bytes ≡ length_at facts node

-- Each held tile is one of its node's image.
pub record AreTilesOf {Op : Type 0} (meanings : Meanings Op) (facts : List (NodeFact Op)) (images : Buffers) (held : HeldTiles) : Type 0 where
  pub each : (node : ℕ) (tile : Tile) (bytes : List ℕ) → held_bytes held node tile ≡ Some bytes → bytes ≡ bytes_at meanings facts images node tile

-- what a tile of the node at a position has of the node's box
abbrev pub part_at : {Op : Type 0} → List (NodeFact Op) → ℕ → Tile → Rectangle
part_at facts node tile = meet (tile_square tile) (shape_at facts node).box

-- A tile of a node may be evaluated: the node is an operation, and each tile that this one requires of an input is held,
-- or the input is a source.
pub record IsReady {Op : Type 0} (meanings : Meanings Op) (facts : List (NodeFact Op)) (held : HeldTiles) (node : ℕ) (tile : Tile) : Type 0 where
  pub operation : Op
  pub inputs : List ℕ
  pub step : slice_get (steps_of (specs_of facts)) node ≡ Some (Apply operation inputs)
  pub served : (i : ℕ) (needed : Tile) → i < length inputs →
      IsTrue (meets needed (meanings.required operation (input_boxes (stated_shapes facts) inputs) i (part_at facts node tile))) →
      IsSourceAt (steps_of (specs_of facts)) (slice_index_or inputs i 0) ⊎ IsSome (held_bytes held (slice_index_or inputs i 0) needed)
