-- Requests for a rectangle of a level of a node.
use Rattle.std.specs.Prelude.{◌≡◌, ℕ, List, Some}
use Rattle.plane_rect.specs.Rectangle.{Rectangle}
use Rattle.model_images.specs.Image.{Image}
use Rattle.model_images.specs.Level.{level}
use Rattle.model_graphs.specs.declared.node.NodeFact.{NodeFact}
use Rattle.model_graphs.specs.Evaluation.{Buffers}
use Rattle.model_graphs.specs.Facts.{specs_of}
use Rattle.model_graphs.specs.Meanings.{Meanings}
use Rattle.model_graphs.specs.Node.{index_of}
use Rattle.model_states.specs.declared.strip.Strip.{Strip}
use Rattle.model_states.specs.Cache.{Cached, Pair, needed_pairs}
use Rattle.model_states.specs.Need.{need}
use Rattle.model_states.specs.State.{image_of}
use Rattle.model_sessions.specs.Sessions.{at_level_zero}
use Rattle.node_tiles.specs.Stated.{scene_of}
use Rattle.strip_renders.specs.Moments.{Moment}
use Rattle.strip_renders.specs.Strips.{list_after}
use Rattle.strip_patches.specs.Shown.{Shows}
use Rattle.strip_patches.specs.declared.picture.Picture.{Picture}

-- A rectangle of a level of the node of a name.
pub record Request : Type 0 where
  pub node : List ℕ
  pub at_level : ℕ
  pub rect : Rectangle

abbrev pub request : List ℕ → ℕ → Rectangle → Request
request node z rect = record { node = node; at_level = z; rect = rect }

-- what it needs, strip by strip
abbrev pub strips_needed : {Op : Type 0} → Meanings Op → List (NodeFact Op) → Request → List Strip
strips_needed meanings facts request =
    need meanings facts (index_of (specs_of facts) request.node) (at_level_zero request.at_level request.rect)

-- the pairs of all strips, in their order
abbrev pub pairs_requested : {Op : Type 0} → Meanings Op → List (NodeFact Op) → Request → List Pair
pairs_requested meanings facts request = needed_pairs (specs_of facts) (strips_needed meanings facts request)

-- the level of the node's image of which it shows the rectangle, over these images of the buffers
abbrev pub level_requested : {Op : Type 0} → Meanings Op → List (NodeFact Op) → Buffers → Request → Image
level_requested meanings facts images request =
    level (image_of meanings (scene_of facts images) request.node) request.at_level

-- Over known images, of which the cached list was right: it is the list after the pairs were looked up, and the picture
-- shows the rectangle of the level of the node's image.
pub record IsShown {Op : Type 0} (meanings : Meanings Op) (facts : List (NodeFact Op)) (images : Buffers) (request : Request) (old new : Moment) (list : List Cached) (picture : Picture) : Type 0 where
  pub cached : new.cached ≡ Some (list_after meanings facts images old.capacity list (pairs_requested meanings facts request))
  pub shows : Shows (level_requested meanings facts images request) request.rect picture
