-- A strip's need serves itself: what a needed tile requires is needed before it.
use Rattle.std.specs.Prelude.{◌≡◌, ℕ, ◌<◌, ◌⊎◌, IsTrue, List, length, slice_get, slice_index_or, Some}
use Rattle.plane_rect.specs.Rectangle.{meet}
use Rattle.plane_rect.specs.Tile.{Tile, tile_square, meets}
use Rattle.model_graphs.specs.Meanings.{Meanings}
use Rattle.model_graphs.specs.Node.{Apply, FromBuffer, Step}
use Rattle.model_graphs.specs.Shapes.{Shape, no_shape}
use Rattle.model_states.specs.Need.{Needed}
use Rattle.model_states.specs.Valid.{input_boxes}

-- the step at a position is a source
abbrev pub IsSourceAt : {Op : Type 0} → List (Step Op) → ℕ → Type 0
IsSourceAt steps node = (buffer : List ℕ) × (slice_get steps node ≡ Some (FromBuffer buffer))

-- a tile is in a list, before a position
abbrev pub IsNeededBefore : List Needed → ℕ → Needed → Type 0
IsNeededBefore list end needed = (k : ℕ) × (k < end) × (slice_get list k ≡ Some needed)

-- Each tile that a needed one requires of an input is needed before it, or the input is a source.
pub record ServesItself {Op : Type 0} (meanings : Meanings Op) (shapes : List Shape) (steps : List (Step Op)) (list : List Needed) : Type 0 where
  pub served : (j : ℕ) (needed : Needed) (operation : Op) (inputs : List ℕ) (i : ℕ) (tile : Tile) →
      slice_get list j ≡ Some needed → slice_get steps needed.0 ≡ Some (Apply operation inputs) → i < length inputs →
      IsTrue (meets tile (meanings.required operation (input_boxes shapes inputs) i
      (meet (tile_square needed.1) (slice_index_or shapes needed.0 no_shape).box))) →
      IsSourceAt steps (slice_index_or inputs i 0) ⊎ IsNeededBefore list j (slice_index_or inputs i 0, tile)
