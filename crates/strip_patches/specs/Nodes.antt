-- Parts of the images of nodes, by the positions of the nodes.
use Rattle.std.specs.Prelude.{◌≡◌, ℕ, [], ◌<◌, ◌⊎◌, IsSome, List, slice_index_or}
use Rattle.plane_rect.specs.Rectangle.{Inside, Rectangle, meet}
use Rattle.plane_rect.specs.Tile.{Meets, Tile}
use Rattle.pixel_formats.specs.Format.{channels}
use Rattle.model_images.specs.Image.{Image, at}
use Rattle.model_graphs.specs.declared.node.NodeFact.{NodeFact}
use Rattle.model_graphs.specs.Evaluation.{Buffers}
use Rattle.model_graphs.specs.Facts.{specs_of}
use Rattle.model_graphs.specs.Meanings.{Meanings}
use Rattle.model_states.specs.Serving.{IsSourceAt}
use Rattle.model_states.specs.State.{image_of}
use Rattle.model_states.specs.Valid.{node_names, steps_of}
use Rattle.node_tiles.specs.Held.{HeldTiles, held_bytes}
use Rattle.node_tiles.specs.Stated.{scene_of, shape_at}

-- the name of the node at a position
abbrev pub name_at : {Op : Type 0} → List (NodeFact Op) → ℕ → List ℕ
name_at facts node = slice_index_or (node_names (specs_of facts)) node []

-- the image of the node at a position
abbrev pub image_at : {Op : Type 0} → Meanings Op → List (NodeFact Op) → Buffers → ℕ → Image
image_at meanings facts images node = image_of meanings (scene_of facts images) (name_at facts node)

-- Each tile that meets what a rectangle has of the box of the node at a position is held, or the node is a source.
pub record HoldsPart {Op : Type 0} (facts : List (NodeFact Op)) (held : HeldTiles) (node : ℕ) (rect : Rectangle) : Type 0 where
  pub each : (tile : Tile) → Meets tile (meet rect (shape_at facts node).box) →
      IsSourceAt (steps_of (specs_of facts)) node ⊎ IsSome (held_bytes held node tile)

-- Each sample is the image's, or the one that was there before; and it is the image's where the rectangle has a position
-- of the image's box.
pub record HasPart (image : Image) (rect : Rectangle) (old new : Image) : Type 0 where
  pub samples : (u v c : ℕ) → Inside u v new.box → c < channels new.format →
      (at new u v c ≡ at image u v c) ⊎ ((at new u v c ≡ at old u v c) × (¬ Inside u v (meet rect image.box)))
